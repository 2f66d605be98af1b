use Rattle.std.proofs.Common.{◌≡◌, sym, ◌∙◌}
use Rattle.std.proofs.lemmas.Bool.{not-true}
use Rattle.drm_checks.specs.Shrinking.IsNeeded.{another, unanswered}
use Rattle.drm_checks.proofs.shrink.is_needed.Goals as goal

pub returns-in-Ok-clause-needed : goal.returns-in-Ok-clause-needed
returns-in-Ok-clause-needed c = λ h. another c.in-Ok.ensures.replay (sym c.is_same.ensures ∙ not-true c.is_same.result h)

pub returns-in-Err-NoLine-clause-needed : goal.returns-in-Err-NoLine-clause-needed
returns-in-Err-NoLine-clause-needed c = λ _. unanswered c.in-Err-NoLine.ensures.fault (λ e. let is = c.in-Err-NoLine.field-0-is in cc)

pub returns-in-Err-NoAnswer-clause-needed : goal.returns-in-Err-NoAnswer-clause-needed
returns-in-Err-NoAnswer-clause-needed c = λ _. unanswered c.in-Err-NoAnswer.ensures.fault (λ e. let is = c.in-Err-NoAnswer.field-0-is in cc)

pub returns-clause-needed : goal.returns-clause-needed
returns-clause-needed c = λ _. unanswered c.in-Err-Malformed.ensures.fault (λ e. let is = c.in-Err-Malformed.field-0-is in cc)

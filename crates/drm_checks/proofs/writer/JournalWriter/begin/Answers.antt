use Rattle.std.proofs.Common.{ℕ, List, [], ◌∷◌, ◌++◌, append_assoc, ap, ◌∙◌, subst, sym}
use Rattle.drm_runs.specs.Lines.{ended}
use Rattle.drm_checks.specs.Journals.{Lines}
use Rattle.drm_checks.specs.Journals.Lines.{limited}
use Rattle.drm_checks.specs.Lines.{limits_text}
use Rattle.drm_checks.proofs.writer.JournalWriter.begin.Goals as goal

pub returns : goal.returns
returns c = (
  ended (limits_text c.args.limits),
  c.in_ok-extend_from_slice.ensures.items
      ∙ (ap (λ (l : List ℕ). l ++ 10 ∷ []) c.in_ok-put_limits.ensures ∙ append_assoc c.args.text.now.items (limits_text c.args.limits) (10 ∷ [])),
  subst (λ (labels : List ℕ). Lines c.args.limits c.args.device [] (ended (limits_text c.args.limits)) c.args.device labels)
      (sym c.new.ensures) limited,
)

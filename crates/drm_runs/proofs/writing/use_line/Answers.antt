use Rattle.std.proofs.Common.{ap, ◌∙◌}
use Rattle.drm_runs.specs.declared.stops.ScriptEnd.TheVariants as ends
use Rattle.drm_runs.proofs.StepLemmas.{answered_uses, unanswered_uses, malformed_uses, unmade_uses}
use Rattle.drm_runs.proofs.writing.use_line.Goals as goal

pub returns-in-Unanswered : goal.returns-in-Unanswered
returns-in-Unanswered g c = unanswered_uses _ _ c.args.lines.now _ c.line.ensures _ _ c.in-Unanswered.ensures

pub returns-in-Answered : goal.returns-in-Answered
returns-in-Answered g c =
    answered_uses _ _ c.args.lines.now _ c.line.ensures c.interpret.new.outcome _ _ _ _ c.write_line.result _
    c.of_writing.ensures c.in-Answered.ensures c.write_line.ensures

pub returns-in-Malformed : goal.returns-in-Malformed
returns-in-Malformed g c = let e = c.in-Malformed.ensures in malformed_uses _ _ c.args.lines.now _ c.line.ensures _ _ _ (c.malformed.ensures ∙ ap (λ n. ends.Malformed n) c.number.ensures) e.0 e.1

pub returns-in-NoMemory : goal.returns-in-NoMemory
returns-in-NoMemory g c = let e = c.in-NoMemory.ensures in unmade_uses _ _ c.args.lines.now _ c.line.ensures _ _ _ c.of.ensures e.0 e.1 e.2 e.3

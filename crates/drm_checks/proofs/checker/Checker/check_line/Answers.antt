use Rattle.std.proofs.Common.{None, Some, subst, refl}
use Rattle.drm_runs.specs.Script.{IsMisplaced, WantsDevice}
use Rattle.drm_checks.proofs.CheckerLemmas.{as_held, used_line, bad_line, unmade_line}
use Rattle.drm_checks.proofs.checker.Checker.check_line.Goals as goal

pub returns-in-Unanswered : goal.returns-in-Unanswered
returns-in-Unanswered g c =
    as_held c.args.lines.now _ _ c.line.ensures c.number-number.ensures
    (used_line _ _ _ _ _ _ _ None _ _ _ c.parts_of.ensures.script c.parts_of.ensures.expected c.in-Unanswered.ensures c.note.ensures)

pub returns-in-Answered : goal.returns-in-Answered
returns-in-Answered g c =
    as_held c.args.lines.now _ _ c.line.ensures c.number-number.ensures
    (used_line _ _ _ _ _ _ _ (Some c.interpret.new.outcome) _ _ _ c.parts_of.ensures.script c.parts_of.ensures.expected c.in-Answered.ensures c.note-in-Answered.ensures)

pub returns-in-Malformed : goal.returns-in-Malformed
returns-in-Malformed g c =
    as_held c.args.lines.now _ _ c.line.ensures c.number-number.ensures
    (bad_line c.malformed.ensures (subst (IsMisplaced c.args.self.now.interpreter.device) c.parts_of.ensures.script c.in-Malformed.ensures.0) (record { unwritten = refl; turns = refl; passed = refl; failed = refl }))

pub returns-in-NoMemory : goal.returns-in-NoMemory
returns-in-NoMemory g c =
    as_held c.args.lines.now _ _ c.line.ensures c.number-number.ensures
    (unmade_line c.of.ensures c.in-NoMemory.ensures.0 (subst WantsDevice c.parts_of.ensures.script c.in-NoMemory.ensures.1) (record { unwritten = refl; turns = refl; passed = refl; failed = refl }))

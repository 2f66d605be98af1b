use Rattle.std.proofs.Common.{length}
use Rattle.drm_checks.proofs.UpdateLemmas.{UpdatedSoFar}
use Rattle.drm_checks.proofs.update.update_script.Given as goal

abbrev pub invariant-lines : goal.invariant-lines
invariant-lines l = UpdatedSoFar l.fn.setup l.fn.text l.rest l.updated.items l.number l.interpreter

abbrev pub decreases-lines : goal.decreases-lines
decreases-lines l = length l.rest

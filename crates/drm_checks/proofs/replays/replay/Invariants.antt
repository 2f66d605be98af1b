use Rattle.std.proofs.Common.{length}
use Rattle.drm_checks.proofs.ReplayLemmas.{ReplaySoFar}
use Rattle.drm_checks.proofs.replays.replay.Given as goal

abbrev pub invariant-lines : goal.invariant-lines
invariant-lines l =
    ReplaySoFar l.fn.setup l.fn.text l.rest l.written.items l.number l.before l.count l.kept l.interpreter

abbrev pub decreases-lines : goal.decreases-lines
decreases-lines l = length l.rest

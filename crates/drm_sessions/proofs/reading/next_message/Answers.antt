use Rattle.std.proofs.Common.{refl}
use Rattle.drm_sessions.proofs.Taking.{Comes-none, Comes-more}
use Rattle.drm_sessions.proofs.Telling.{Untold-none, Untold-then}
use Rattle.drm_sessions.proofs.reading.next_message.Goals as goal

pub waiting-init : goal.waiting-init
waiting-init g c = (Comes-none _ _ _, Untold-none _, refl)

pub waiting-preserved : goal.waiting-preserved
waiting-preserved g c =
    let gives = c.in-Got.ensures.supplies.0 in
    (Comes-more c.waiting.invariant.0 (rw c.as_slice.ensures at c.in-NeedMore.ensures) gives, Untold-then c.waiting.invariant.1 gives.untold, c.waiting.invariant.2)

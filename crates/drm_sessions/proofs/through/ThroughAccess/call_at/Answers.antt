use Rattle.drm_sessions.proofs.Openings.{Answered-opening}
use Rattle.drm_sessions.proofs.through.ThroughAccess.call_at.Goals as goal

pub returns-clause-answers : goal.returns-clause-answers
returns-clause-answers g c =
    let made = c.call_placed-place.ensures in
    rw (← c.self.view_is) (record {
      extends = made.extends;
      merged = made.merged;
      unchanged = made.unchanged;
      ok = made.ok;
      err = made.err;
      turn = made.turn;
      journaled = made.counts.1;
    })

pub returns-clause-opening : goal.returns-clause-opening
returns-clause-opening g c = Answered-opening _ _ _ c.call_placed-place.ensures.turn

use Rattle.std.proofs.Common.{◌≡◌, ◌+◌, length}
use Rattle.drm_turns.specs.Participants.{Same}
use Rattle.drm_listeners.specs.Accepting.{ArePromised, HasRoom, HasServedFor}
use Rattle.drm_listeners.proofs.accepting.join_all.Given as goal

-- the connections so far were waited for, and those to come have their threads
abbrev pub invariant-loop-started : goal.invariant-loop-started
invariant-loop-started g l = record {
  can : (goal.iterator-loop-started g).can_next l.started-iterator;
  ends : (goal.iterator-loop-started g).is_finite l.started-iterator;
  same : Same l.initial.own l.own;
  parent : l.own.parent ≡ l.initial.own.parent;
  served : HasServedFor l.fn.terms l.fn.pool.outcomes l.sessions.items l.own;
  promised : ArePromised (λ worker. worker.thread.promise) l.fn.terms.class l.own l.started-iterator;
  outstanding : l.own.outstanding + length l.initial.started-iterator ≡ l.initial.own.outstanding + length l.started-iterator;
  merged : length l.own.merged + length l.started-iterator ≡ length l.initial.own.merged + length l.initial.started-iterator;
  room : HasRoom l.fn.terms.until (length l.started-iterator) l.sessions;
}

use Rattle.std.proofs.Common.{◌≡◌, ◌+◌}
use Rattle.arrayvec.specs.ArrayVec.{array_vec_len}
use Rattle.drm_turns.specs.Participants.{Same}
use Rattle.drm_listeners.specs.Accepting.{AreCounted, ArePromised, HasServedFor, HasThreads, IsPlain, IsRoomFor, IsWithin, all_of}
use Rattle.drm_listeners.proofs.accepting.accept_connections.Given as goal

-- the participant has taken in those of sessions that have ended, the other connections have their threads, and each that
-- was accepted is counted
abbrev pub invariant-loop : goal.invariant-loop
invariant-loop g l = record {
  terms : l.listener.terms ≡ l.initial.listener.terms;
  same : Same l.initial.own l.own;
  parent : l.own.parent ≡ l.initial.own.parent;
  served : HasServedFor l.initial.listener.terms l.pool.outcomes l.pool.sessions.items l.own;
  promised : ArePromised (λ worker. worker.thread.promise) l.initial.listener.terms.class l.own l.pool.workers.items;
  outstanding : l.own.outstanding ≡ l.initial.own.outstanding + array_vec_len l.pool.workers;
  all : l.listener.accepted ≡ all_of l.pool.outcomes;
  within : IsWithin l.initial.listener.terms.until l.listener.accepted;
  counted : AreCounted l.pool.outcomes (array_vec_len l.pool.workers) l.own;
  plain : IsPlain l.initial.listener.terms.until l.pool.outcomes;
  threads : HasThreads l.initial.listener.terms.until l.pool.outcomes;
  room : IsRoomFor l.initial.listener.terms.until l.pool.sessions;
}

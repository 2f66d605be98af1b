use Rattle.std.proofs.Common.{◌≡◌, ◌+◌, ◌-◌, ◌≤◌, length}
use Rattle.arrayvec.specs.ArrayVec.{array_vec_len}
use Rattle.drm_turns.specs.Participants.{Same}
use Rattle.drm_listeners.specs.Accepting.{ArePromised, HasRoom, HasServedFor}
use Rattle.drm_listeners.proofs.accepting.join_ended.Given as goal

-- the connections so far were waited for or are left, and those that are left have their threads
abbrev pub invariant-workers : goal.invariant-workers
invariant-workers g l = record {
  same : Same l.fn.own l.own;
  parent : l.own.parent ≡ l.fn.own.parent;
  served : HasServedFor l.fn.terms l.pool.outcomes l.pool.sessions.items l.own;
  promised : ArePromised (λ worker. worker.thread.promise) l.fn.terms.class l.own l.pool.workers.items;
  outstanding : l.own.outstanding + array_vec_len l.fn.pool.workers ≡ l.fn.own.outstanding + array_vec_len l.pool.workers;
  merged : length l.own.merged + array_vec_len l.pool.workers ≡ length l.fn.own.merged + array_vec_len l.fn.pool.workers;
  room : HasRoom l.fn.terms.until (array_vec_len l.pool.workers) l.pool.sessions;
  outcomes : l.pool.outcomes ≡ l.fn.pool.outcomes;
  within : l.index ≤ array_vec_len l.pool.workers;
}

abbrev pub decreases-workers : goal.decreases-workers
decreases-workers g l = array_vec_len l.pool.workers - l.index

use Rattle.std.proofs.Common.{refl, sym, subst, ◌∙◌, arith}
use Rattle.std.proofs.lemmas.List.Elements.{All-get_or, All-same}
use Rattle.std.specs.Prelude.{IsSomeAnd, Some}
use Rattle.drm_listeners.specs.Accepting.{IsPromised}
use Rattle.drm_listeners.proofs.Workers.{All-removed, promised-still, same-room, some-room}
use Rattle.drm_listeners.proofs.accepting.join_ended.Goals as goal

pub workers-init : goal.workers-init
workers-init g c = record {
  same = (refl, refl, refl);
  parent = refl;
  served = c.requires.served;
  promised = c.requires.promised;
  outstanding = refl;
  merged = refl;
  room = c.requires.room;
  outcomes = refl;
  within = omega arith;
}

pub join_worker-requires-clause-promised : goal.join_worker-requires-clause-promised
join_worker-requires-clause-promised g c =
    let within = c.workers-test.true in
    let few = c.len.ensures in
    subst (λ worker. IsSomeAnd worker (λ worker. IsPromised c.args.terms.class c.workers.own worker.thread.promise))
    (sym c.in-Some-remove.ensures.value)
    (All-get_or (λ worker. IsSomeAnd worker (λ worker. IsPromised c.args.terms.class c.workers.own worker.thread.promise))
    c.workers.pool.workers.items c.workers.index (Some c.in-Some-remove.worker) (omega (arith, within, few)) c.workers.invariant.promised)

pub workers-preserved-then-free_left : goal.workers-preserved-then-free_left
workers-preserved-then-free_left g c =
    let before = c.workers.invariant in
    let joined = c.join_worker.ensures in
    let less = c.remove.ensures.len in
    let back = joined.outstanding in
    let more = joined.merged in
    record {
      same = (joined.same.0 ∙ before.same.0, joined.same.1 ∙ before.same.1, joined.same.2 ∙ before.same.2);
      parent = joined.parent ∙ before.parent;
      served = joined.served c.workers.pool.outcomes before.served;
      promised =
          promised-still (λ worker. worker.thread.promise) c.args.terms.class c.workers.own c.join_worker.new.own _ joined.same
          (All-same (λ worker. IsSomeAnd worker (λ worker. IsPromised c.args.terms.class c.workers.own worker.thread.promise)) _ _ c.remove.ensures.items
          (All-removed (λ worker. IsSomeAnd worker (λ worker. IsPromised c.args.terms.class c.workers.own worker.thread.promise))
          c.workers.pool.workers.items c.workers.index before.promised));
      outstanding = (let sum = before.outstanding in omega (arith, less, back, sum));
      merged = (let sum = before.merged in omega (arith, less, more, sum));
      room = joined.room _ (same-room c.args.terms.until _ _ _ (omega (arith, less)) before.room);
      outcomes = before.outcomes;
      within = omega (arith, less);
    }

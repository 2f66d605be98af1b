use Rattle.std.proofs.Common.{length, refl, ap, ◌∙◌, arith}
use Rattle.std.proofs.lemmas.List.Elements.{All-head, All-same, All-tail}
use Rattle.std.specs.Prelude.{IsSomeAnd}
use Rattle.drm_listeners.specs.Accepting.{IsPromised}
use Rattle.drm_listeners.proofs.Workers.{promised-still, same-room, some-room}
use Rattle.drm_listeners.proofs.accepting.join_all.Goals as goal

pub loop-started-init : goal.loop-started-init
loop-started-init g c =
    let all = ap (λ xs. length xs) c.into_iter-started-iterator.ensures.into_iter_gives.0 in
    record {
      can = tt;
      ends = tt;
      same = (refl, refl, refl);
      parent = refl;
      served = c.requires.served;
      promised =
          All-same (λ worker. IsSomeAnd worker (λ worker. IsPromised c.args.terms.class c.args.own.now worker.thread.promise))
          _ _ c.into_iter-started-iterator.ensures.into_iter_gives.0 c.requires.promised;
      outstanding = refl;
      merged = refl;
      room = same-room c.args.terms.until _ _ _ (omega (arith, all)) c.requires.room;
    }

pub join_worker-requires-clause-promised : goal.join_worker-requires-clause-promised
join_worker-requires-clause-promised g c =
    let first = c.in-Some.ensures.steps in
    let is = c.in-Some-started.is in
    let head : IsSomeAnd c.in-Some.started (λ worker. IsPromised c.args.terms.class c.loop-started.own worker.thread.promise) =
    All-head (λ worker. IsSomeAnd worker (λ worker. IsPromised c.args.terms.class c.loop-started.own worker.thread.promise)) _ _ (rw first at c.loop-started.invariant.promised) in
    rw is at head

pub join_worker-requires-clause-outstanding : goal.join_worker-requires-clause-outstanding
join_worker-requires-clause-outstanding g c =
    let taken = ap (λ xs. length xs) c.in-Some.ensures.steps in
    let all = ap (λ xs. length xs) c.into_iter-started-iterator.ensures.into_iter_gives.0 in
    let enough = c.requires.outstanding in
    let sum = c.loop-started.invariant.outstanding in
    omega (arith, taken, all, enough, sum)

pub join_worker-requires-clause-room : goal.join_worker-requires-clause-room
join_worker-requires-clause-room g c =
    let taken = ap (λ xs. length xs) c.in-Some.ensures.steps in
    some-room c.args.terms.until _ _ (omega (arith, taken)) c.loop-started.invariant.room

pub loop-started-preserved : goal.loop-started-preserved
loop-started-preserved g c =
    let before = c.loop-started.invariant in
    let joined = c.join_worker.ensures in
    let first = c.in-Some.ensures.steps in
    let taken = ap (λ xs. length xs) first in
    let back = joined.outstanding in
    let more = joined.merged in
    record {
      can = tt;
      ends = tt;
      same = (joined.same.0 ∙ before.same.0, joined.same.1 ∙ before.same.1, joined.same.2 ∙ before.same.2);
      parent = joined.parent ∙ before.parent;
      served = joined.served c.args.pool.outcomes before.served;
      promised =
          promised-still (λ worker. worker.thread.promise) c.args.terms.class c.loop-started.own c.join_worker.new.own _ joined.same
          (All-tail (λ worker. IsSomeAnd worker (λ worker. IsPromised c.args.terms.class c.loop-started.own worker.thread.promise)) _ _ (rw first at before.promised));
      outstanding = (let sum = before.outstanding in omega (arith, taken, back, sum));
      merged = (let sum = before.merged in omega (arith, taken, more, sum));
      room = joined.room _ (same-room c.args.terms.until _ _ _ (omega (arith, taken)) before.room);
    }

use Rattle.std.proofs.Common.{◌+◌, ◌<◌, true, [], inl, inr, filter, ◌∙◌, arith}
use Rattle.drm_modes.specs.Numbers.{numbers_from}
use Rattle.drm_leases.proofs.NumbersSoFar.{Looked, looked, one_longer, all_told}
use Rattle.drm_leases.proofs.lists.passing.Goals as goal
use Rattle.drm_leases.proofs.lists.passing.Goals.{then-test, else-test}

pub loop-id-preserved : goal.loop-id-preserved
loop-id-preserved g c =
    let l = c.loop-id in
    let stop = c.args.last + 1 in
    let lt : l.id < stop = omega (arith, c.loop-id-test.true) in
    let how : Looked (λ _. true) l.list [] l.id stop c.test.result c.if-test.list =
    elim c.if-test.branch
    [ then-test w ↦ inl (w.if-test.true, w.list-is ∙ w.push.ensures) | else-test w ↦ inr (w.if-test.false, w.list-is) ]
    in
    let longer = one_longer (λ _. true) l.list [] l.id stop c.test.result c.if-test.list how in
    record {
      callable = l.invariant.callable;
      told = λ p tests.
          looked p l.list (filter p (numbers_from 1 c.args.last)) l.id stop lt c.test.result
          (tests l.id c.test.result (omega (arith, l.invariant.short)) (omega (arith, lt, c.requires.few)) c.test.ensures) c.if-test.list how
          (l.invariant.told p tests);
      short = omega (arith, longer, l.invariant.short);
    }

pub returns : goal.returns
returns g c = λ p tests.
    let l = c.loop-id in
    all_told p l.list (filter p (numbers_from 1 c.args.last)) l.id (c.args.last + 1)
    (omega (arith, c.loop-id-test.false)) (l.invariant.told p tests)

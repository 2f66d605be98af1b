use Rattle.std.proofs.Common.{◌≡◌, ℕ, ◌<◌, arith}
use Rattle.std.specs.FinMap as map
use Rattle.drm_index_array.specs.Tree.{width}
use Rattle.drm_index_array.proofs.CountLemmas.{count_at, slots_passed, none_passed, all_passed}
use Rattle.drm_index_array.proofs.tree.Node.slot_of.Goals as goal

pub loop-at-init : goal.loop-at-init
loop-at-init g c = omega (arith, none_passed (map.contains_key c.args.self.now.items) (width c.args.self.now.height))

pub returns-then-left-here-clause-within : goal.returns-then-left-here-clause-within
returns-then-left-here-clause-within g c =
    let lt : c.loop-at.at < 64 = omega (arith, c.loop-at-test.true) in
    let here =
    count_at _ c.self.invariant.sound c.self.view_is c.loop-at.at lt c.index.result.now c.count_below-here.result
    c.index.ensures c.count_below-here.ensures in
    omega (arith, here, c.if-left-here.true)

pub loop-at-preserved : goal.loop-at-preserved
loop-at-preserved g c =
    let lt : c.loop-at.at < 64 = omega (arith, c.loop-at-test.true) in
    let here =
    count_at _ c.self.invariant.sound c.self.view_is c.loop-at.at lt c.index.result.now c.count_below-here.result
    c.index.ensures c.count_below-here.ensures in
    omega
    (arith, here, c.if-left-here.false, c.loop-at.invariant, slots_passed (map.contains_key c.args.self.now.items) (width c.args.self.now.height) c.loop-at.at)

pub returns-clause-past : goal.returns-clause-past
returns-clause-past g c =
    let p = λ (k : ℕ). map.contains_key c.args.self.now.items k in
    let all : c.loop-at.at ≡ 64 = omega (arith, c.loop-at-test.false, c.loop-at.auto.at-end) in
    let invariant = rw all at c.loop-at.invariant in
    omega (arith, invariant, all_passed p c.args.self.now.height)

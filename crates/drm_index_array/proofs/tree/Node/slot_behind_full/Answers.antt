use Rattle.std.proofs.Common.{◌<◌, ◌≤◌, arith}
use Rattle.drm_index_array.proofs.CountLemmas.{count_at, full_before}
use Rattle.drm_index_array.proofs.tree.Node.slot_behind_full.Goals as goal

pub returns-clause-before : goal.returns-clause-before
returns-clause-before g c =
    let le : c.parts-at.result.0 ≤ c.full_slots.result = omega (arith, c.if-at-full_slots.false) in
    full_before _ c.self.invariant.sound c.self.view_is c.full_slots.result c.full_slots.ensures.few
    c.full_slots.ensures.full c.args.position c.parts-at.result.0 c.parts-at.result.1 le c.parts-at.ensures.slot
    c.parts-at.ensures.rest

pub returns-clause-within : goal.returns-clause-within
returns-clause-within g c =
    let lt : c.parts-at.result.0 < 64 = omega (arith, c.if-at-ge64.false) in
    let here =
    count_at _ c.self.invariant.sound c.self.view_is c.parts-at.result.0 lt c.index.result.now c.count_below.result
    c.index.ensures c.count_below.ensures in
    omega (arith, here, c.if-left-count_below.false)

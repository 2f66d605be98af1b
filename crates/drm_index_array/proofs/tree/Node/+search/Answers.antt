use Rattle.std.proofs.Common.{sym, refl, arith, rules}
use Rattle.drm_index_array.specs.declared.tree.Slot.TheVariants.{Vacant, Value, Child}
use Rattle.drm_index_array.proofs.SlotLemmas.{spot}
use Rattle.drm_index_array.proofs.NodeLemmas.{node_in_slot, node_at_end, node_none, node_some, slot_in, rest_in, bit_zero, slot_untold, slot_here, slot_some, slot_none, slot_all, slot_fails, child_low, rest_within, child_end, found_low, not_free}
use Rattle.std.proofs.lemmas.Nat.{pow_pos}
use Rattle.drm_index_array.proofs.Least.{least_some}
use Rattle.drm_index_array.proofs.tree.Node.+search.Goals as goal

pub next-next_in-requires : goal.next-next_in-requires
next-next_in-requires g t c κs within =
    let here =
    spot _ c.self.invariant.sound c.parts-at.ensures.slot c.parts-at.ensures.rest c.self.view_is c.requires in
    (search rules, (search rules, (slot_in here, rest_in here)))

pub next-returns-in-Some : goal.next-returns-in-Some
next-returns-in-Some g t c =
    let here =
    spot _ c.self.invariant.sound c.parts-at.ensures.slot c.parts-at.ensures.rest c.self.view_is c.requires in
    node_in_slot here c.args.sought c.in-Some.found c.in-Some.ensures

pub next-returns-then-at-eq63 : goal.next-returns-then-at-eq63
next-returns-then-at-eq63 g t c =
    let here =
    spot _ c.self.invariant.sound c.parts-at.ensures.slot c.parts-at.ensures.rest c.self.view_is c.requires in
    node_at_end here c.args.sought _ c.self.invariant.sound c.in_default.ensures c.if-at-eq63.true

pub next-first_one-requires : goal.next-first_one-requires
next-first_one-requires g t c =
    let here =
    spot _ c.self.invariant.sound c.parts-at.ensures.slot c.parts-at.ensures.rest c.self.view_is c.requires in
    omega (arith, slot_in here, c.if-at-eq63.false)

pub next-returns-in_err-at : goal.next-returns-in_err-at
next-returns-in_err-at g t c =
    let here =
    spot _ c.self.invariant.sound c.parts-at.ensures.slot c.parts-at.ensures.rest c.self.view_is c.requires in
    let none =
    node_none here _ c.self.invariant.sound c.args.sought _ c.word.ensures c.in_default.ensures c.in_err-at.ensures
    in
    search rules

pub next-next_in-requires-2 : goal.next-next_in-requires-2
next-next_in-requires-2 g t c κs within =
    let found = least_some _ _ _ _ (sym c.in_ok-at.ensures) in
    (search rules, (search rules, (omega (arith, found.at_most), pow_pos _)))

pub next-returns : goal.next-returns
next-returns g t c =
    let here =
    spot _ c.self.invariant.sound c.parts-at.ensures.slot c.parts-at.ensures.rest c.self.view_is c.requires in
    node_some here _ c.self.invariant.sound c.args.sought _ c.word.ensures c.in_default.ensures c.in_ok-at.at _
    c.in_ok-at.ensures c.next_in-2.ensures

pub next_in-returns-then-word-at-eq0 : goal.next_in-returns-then-word-at-eq0
next_in-returns-then-word-at-eq0 g t c =
    slot_untold _ c.self.invariant.sound c.self.view_is c.args.at c.args.rest c.requires.slot c.requires.rest
    c.args.sought _ c.word.ensures (bit_zero _ _ c.if-word-at-eq0.true)

pub next_in-next-requires : goal.next_in-next-requires
next_in-next-requires g t c κs within =
    let at =
    slot_here _ c.self.invariant.sound c.self.view_is c.args.at c.args.rest c.requires.slot c.requires.rest
    c.args.sought _ _ c.index.ensures c.in-Child.is in
    let falls =
    child_low _ c.self.invariant.sound c.self.view_is c.args.at c.args.rest c.requires.slot c.requires.rest
    c.args.sought c.in-Child.child at in
    let lower =
    rest_within _ c.self.invariant.sound c.self.view_is c.args.at c.args.rest c.requires.slot c.requires.rest
    c.args.sought c.in-Child.child at in
    rw c.deref.ensures (search rules, (search rules, lower))

pub next_in-overflow_add-result-in-Some : goal.next_in-overflow_add-result-in-Some
next_in-overflow_add-result-in-Some g t c =
    let at =
    slot_here _ c.self.invariant.sound c.self.view_is c.args.at c.args.rest c.requires.slot c.requires.rest
    c.args.sought _ _ c.index.ensures c.in-Child.is in
    let next = rw c.deref.ensures at c.in-Some.ensures in
    let low =
    found_low _ c.self.invariant.sound c.self.view_is c.args.at c.args.rest c.requires.slot c.requires.rest
    c.args.sought c.in-Child.child at c.in-Some.found next in
    let bound = c.start-base.ensures.bound in
    let wide = c.start-base.ensures.width in
    search rules

pub next_in-returns-in-Vacant-sought : goal.next_in-returns-in-Vacant-sought
next_in-returns-in-Vacant-sought g t c =
    let at =
    slot_here _ c.self.invariant.sound c.self.view_is c.args.at c.args.rest c.requires.slot c.requires.rest
    c.args.sought _ _ c.index.ensures c.in-Vacant.is in
    slot_all _ c.self.invariant.sound c.self.view_is c.args.at c.args.rest c.requires.slot c.requires.rest c.args.sought
    Vacant at _ c.start-base.ensures.value (rw c.in-Vacant-sought.is refl)

pub next_in-returns-in_default : goal.next_in-returns-in_default
next_in-returns-in_default g t c =
    let at =
    slot_here _ c.self.invariant.sound c.self.view_is c.args.at c.args.rest c.requires.slot c.requires.rest
    c.args.sought _ _ c.index.ensures c.in-Vacant.is in
    slot_fails _ c.self.invariant.sound c.self.view_is c.args.at c.args.rest c.requires.slot c.requires.rest
    c.args.sought Vacant at (λ r. not_free _ c.args.sought c.in_default.not-Vacant)

pub next_in-returns-then-is_sought : goal.next_in-returns-then-is_sought
next_in-returns-then-is_sought g t c =
    let at =
    slot_here _ c.self.invariant.sound c.self.view_is c.args.at c.args.rest c.requires.slot c.requires.rest
    c.args.sought _ _ c.index.ensures c.in-Value.is in
    slot_all _ c.self.invariant.sound c.self.view_is c.args.at c.args.rest c.requires.slot c.requires.rest c.args.sought
    (Value c.in-Value.entry) at _ c.start-base.ensures.value (sym c.if-is_sought.ensures)

pub next_in-returns-else-is_sought : goal.next_in-returns-else-is_sought
next_in-returns-else-is_sought g t c =
    let at =
    slot_here _ c.self.invariant.sound c.self.view_is c.args.at c.args.rest c.requires.slot c.requires.rest
    c.args.sought _ _ c.index.ensures c.in-Value.is in
    slot_fails _ c.self.invariant.sound c.self.view_is c.args.at c.args.rest c.requires.slot c.requires.rest
    c.args.sought (Value c.in-Value.entry) at (λ r. sym c.if-is_sought.ensures)

pub next_in-returns-in-Some : goal.next_in-returns-in-Some
next_in-returns-in-Some g t c =
    let at =
    slot_here _ c.self.invariant.sound c.self.view_is c.args.at c.args.rest c.requires.slot c.requires.rest
    c.args.sought _ _ c.index.ensures c.in-Child.is in
    let next = rw c.deref.ensures at c.in-Some.ensures in
    slot_some _ c.self.invariant.sound c.self.view_is c.args.at c.args.rest c.requires.slot c.requires.rest
    c.args.sought (Child c.in-Child.child) at _ c.in-Some.found c.start-base.ensures.value
    (child_end _ c.self.invariant.sound c.self.view_is c.args.at c.args.rest c.requires.slot c.requires.rest c.args.sought c.in-Child.child at _ next)

pub next_in-returns-in-None : goal.next_in-returns-in-None
next_in-returns-in-None g t c =
    let at =
    slot_here _ c.self.invariant.sound c.self.view_is c.args.at c.args.rest c.requires.slot c.requires.rest
    c.args.sought _ _ c.index.ensures c.in-Child.is in
    let next = rw c.deref.ensures at c.in-None.ensures in
    slot_none _ c.self.invariant.sound c.self.view_is c.args.at c.args.rest c.requires.slot c.requires.rest
    c.args.sought (Child c.in-Child.child) at
    (child_end _ c.self.invariant.sound c.self.view_is c.args.at c.args.rest c.requires.slot c.requires.rest c.args.sought c.in-Child.child at _ next)

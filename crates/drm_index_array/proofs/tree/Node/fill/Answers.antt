use Rattle.std.proofs.Common.{is_some, not, ◌≡◌, ◌∙◌, ap, sym, refl, arith, rules, subst}
use Rattle.drm_index_array.specs.Slots.{Fits}
use Rattle.drm_index_array.proofs.NodeLemmas.{node_any}
use Rattle.drm_index_array.specs.declared.words.Sought.TheVariants.{Vacant as Free}
use Rattle.drm_index_array.proofs.SlotLemmas.{level_spot, slot_is}
use Rattle.drm_index_array.proofs.EditLemmas.{was_fits, value_was}
use Rattle.drm_index_array.proofs.FillLemmas.{filled_items, absent_before, filled_few, filled_node}
use Rattle.drm_index_array.proofs.tree.Node.fill.Goals as goal

pub index_mut-requires : goal.index_mut-requires
index_mut-requires g c =
    let lt =
    (level_spot _ c.self.invariant.sound _ _ c.requires.level c.requires.height c.parts-at.ensures.slot c.parts-at.ensures.rest c.self.view_is c.requires.index).in_range
    in
    search rules

pub fill-requires-clause-fits : goal.fill-requires-clause-fits
fill-requires-clause-fits g c =
    let here =
    level_spot _ c.self.invariant.sound _ _ c.requires.level c.requires.height c.parts-at.ensures.slot
    c.parts-at.ensures.rest c.self.view_is c.requires.index in
    let was = slot_is here _ c.index_mut.result.now c.index_mut.ensures.value refl in
    let height = ap (λ t. t.height) c.self.view_is ∙ c.requires.height in
    subst (λ h. Fits h c.index_mut.result.now) height (was_fits here _ was)

pub returns-in-Err-clause-taken : goal.returns-in-Err-clause-taken
returns-in-Err-clause-taken g c =
    let here =
    level_spot _ c.self.invariant.sound _ _ c.requires.level c.requires.height c.parts-at.ensures.slot
    c.parts-at.ensures.rest c.self.view_is c.requires.index in
    let was = slot_is here _ c.index_mut.result.now c.index_mut.ensures.value refl in
    rw (value_was here _ was) at c.in-Err.ensures.taken

pub add-requires-clause-slot : goal.add-requires-clause-slot
add-requires-clause-slot g c =
    omega
    (arith, (level_spot _ c.self.invariant.sound _ _ c.requires.level c.requires.height c.parts-at.ensures.slot c.parts-at.ensures.rest c.self.view_is c.requires.index).in_range, c.self.invariant.sound.wide)

pub overflow_add-self : goal.overflow_add-self
overflow_add-self g c =
    let here =
    level_spot _ c.self.invariant.sound _ _ c.requires.level c.requires.height c.parts-at.ensures.slot
    c.parts-at.ensures.rest c.self.view_is c.requires.index in
    let was = slot_is here _ c.index_mut.result.now c.index_mut.ensures.value refl in
    let same : c.self.inside.height ≡ g.L.Level.height = ap (λ t. t.height) c.self.view_is ∙ c.requires.height in
    let now = rw (sym same) at c.in-Ok.ensures.below in
    let full = rw (sym same) at c.in-Ok.ensures.full in
    omega
    (arith, filled_few here _ was c.in-Ok.ensures.absent _ _ now _ _ _ c.self.invariant c.in-Ok.is_full full c.add.ensures.taken c.add.ensures.vacant c.add.ensures.marked)

pub invariant_of-self-2 : goal.invariant_of-self-2
invariant_of-self-2 g c =
    let here =
    level_spot _ c.self.invariant.sound _ _ c.requires.level c.requires.height c.parts-at.ensures.slot
    c.parts-at.ensures.rest c.self.view_is c.requires.index in
    let was = slot_is here _ c.index_mut.result.now c.index_mut.ensures.value refl in
    let same : c.self.inside.height ≡ g.L.Level.height = ap (λ t. t.height) c.self.view_is ∙ c.requires.height in
    let now = rw (sym same) at c.in-Ok.ensures.below in
    let full = rw (sym same) at c.in-Ok.ensures.full in
    filled_node here _ was c.in-Ok.ensures.absent _ _ now _ _ _ c.self.invariant c.in-Ok.is_full full
    c.add.ensures.taken c.add.ensures.vacant c.add.ensures.marked (rw same c.in-Ok.ensures.fits) c.in-Ok.ensures.used
    c.add.ensures.words

pub returns-clause-full : goal.returns-clause-full
returns-clause-full g c =
    let here =
    level_spot _ c.self.invariant.sound _ _ c.requires.level c.requires.height c.parts-at.ensures.slot
    c.parts-at.ensures.rest c.self.view_is c.requires.index in
    let was = slot_is here _ c.index_mut.result.now c.index_mut.ensures.value refl in
    let same : c.self.inside.height ≡ g.L.Level.height = ap (λ t. t.height) c.self.view_is ∙ c.requires.height in
    let now = rw (sym same) at c.in-Ok.ensures.below in
    let full = rw (sym same) at c.in-Ok.ensures.full in
    let node =
    filled_node here _ was c.in-Ok.ensures.absent _ _ now _ _ _ c.self.invariant c.in-Ok.is_full full
    c.add.ensures.taken c.add.ensures.vacant c.add.ensures.marked (rw same c.in-Ok.ensures.fits)
    c.in-Ok.ensures.used c.add.ensures.words in
    ap not
    (c.is_some-has_vacant.ensures ∙ ap is_some c.first_one.ensures ∙ node_any _ _ _ _ node.sound refl Free _ c.word.ensures)

pub returns-clause-ok : goal.returns-clause-ok
returns-clause-ok g c =
    let here =
    level_spot _ c.self.invariant.sound _ _ c.requires.level c.requires.height c.parts-at.ensures.slot
    c.parts-at.ensures.rest c.self.view_is c.requires.index in
    let was = slot_is here _ c.index_mut.result.now c.index_mut.ensures.value refl in
    let same : c.self.inside.height ≡ g.L.Level.height = ap (λ t. t.height) c.self.view_is ∙ c.requires.height in
    let now = rw (sym same) at c.in-Ok.ensures.below in
    filled_items here _ was c.in-Ok.ensures.absent _ _ now

pub returns-clause-absent : goal.returns-clause-absent
returns-clause-absent g c =
    let here =
    level_spot _ c.self.invariant.sound _ _ c.requires.level c.requires.height c.parts-at.ensures.slot
    c.parts-at.ensures.rest c.self.view_is c.requires.index in
    let was = slot_is here _ c.index_mut.result.now c.index_mut.ensures.value refl in
    let same : c.self.inside.height ≡ g.L.Level.height = ap (λ t. t.height) c.self.view_is ∙ c.requires.height in
    let now = rw (sym same) at c.in-Ok.ensures.below in
    absent_before here _ was c.in-Ok.ensures.absent _ _ now

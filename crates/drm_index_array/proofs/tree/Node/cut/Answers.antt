use Rattle.std.proofs.Common.{◌≡◌, ◌<◌, ◌∙◌, ap, sym, refl, arith, rules, subst, option_map}
use Rattle.std.proofs.lemmas.List.{length-set}
use Rattle.drm_index_array.specs.Slots.{Fits, IsUsed, has_below}
use Rattle.drm_index_array.specs.declared.words.Sought.TheVariants.{Vacant as Free, Marked as WithMark}
use Rattle.drm_index_array.proofs.SlotLemmas.{level_spot, slot_is}
use Rattle.drm_index_array.proofs.EditLemmas.{was_fits, value_was, read_set}
use Rattle.drm_index_array.proofs.CutLemmas.{cut_items, cut_vacant, cut_unmarked, cut_nothing, cut_some, cut_node}
use Rattle.drm_index_array.proofs.tree.Node.cut.Goals as goal

pub index_mut-requires : goal.index_mut-requires
index_mut-requires g c = let lt = (level_spot _ c.self.invariant.sound _ _ c.requires.level c.requires.height c.parts-at.ensures.slot c.parts-at.ensures.rest c.self.view_is c.requires.index).in_range in search rules

pub cut-requires-clause-fits : goal.cut-requires-clause-fits
cut-requires-clause-fits g c =
    let here =
    level_spot _ c.self.invariant.sound _ _ c.requires.level c.requires.height c.parts-at.ensures.slot
    c.parts-at.ensures.rest c.self.view_is c.requires.index in
    let was = slot_is here _ c.index_mut.result.now c.index_mut.ensures.value refl in
    let height = ap (λ t. t.height) c.self.view_is ∙ c.requires.height in
    subst (λ h. Fits h c.index_mut.result.now) height (was_fits here _ was)

pub cut-requires-clause-used : goal.cut-requires-clause-used
cut-requires-clause-used g c =
    let here =
    level_spot _ c.self.invariant.sound _ _ c.requires.level c.requires.height c.parts-at.ensures.slot
    c.parts-at.ensures.rest c.self.view_is c.requires.index in
    let was = slot_is here _ c.index_mut.result.now c.index_mut.ensures.value refl in
    subst IsUsed was (c.self.invariant.used c.parts-at.result.0)

pub invariant_of-self : goal.invariant_of-self
invariant_of-self g c =
    let here =
    level_spot _ c.self.invariant.sound _ _ c.requires.level c.requires.height c.parts-at.ensures.slot
    c.parts-at.ensures.rest c.self.view_is c.requires.index in
    let was = slot_is here _ c.index_mut.result.now c.index_mut.ensures.value refl in
    let same : c.self.inside.height ≡ g.L.Level.height = ap (λ t. t.height) c.self.view_is ∙ c.requires.height in
    let now = rw (sym same) at c.cut.ensures.below in
    cut_nothing here _ was _ now (sym c.in_default.is ∙ c.cut.ensures.value) _ _ c.self.invariant
    (rw same c.cut.ensures.fits) c.cut.ensures.used

pub returns-in_default-clause-items : goal.returns-in_default-clause-items
returns-in_default-clause-items g c =
    let here =
    level_spot _ c.self.invariant.sound _ _ c.requires.level c.requires.height c.parts-at.ensures.slot
    c.parts-at.ensures.rest c.self.view_is c.requires.index in
    let was = slot_is here _ c.index_mut.result.now c.index_mut.ensures.value refl in
    let same : c.self.inside.height ≡ g.L.Level.height = ap (λ t. t.height) c.self.view_is ∙ c.requires.height in
    let now = rw (sym same) at c.cut.ensures.below in
    cut_items here _ was _ now

pub returns-in_default-clause-value : goal.returns-in_default-clause-value
returns-in_default-clause-value g c =
    let here =
    level_spot _ c.self.invariant.sound _ _ c.requires.level c.requires.height c.parts-at.ensures.slot
    c.parts-at.ensures.rest c.self.view_is c.requires.index in
    let was = slot_is here _ c.index_mut.result.now c.index_mut.ensures.value refl in
    sym c.in_default.is ∙ c.cut.ensures.value ∙ ap (λ o. option_map (λ s. s.value) o) (value_was here _ was)

pub overflow_sub-self : goal.overflow_sub-self
overflow_sub-self g c =
    let here =
    level_spot _ c.self.invariant.sound _ _ c.requires.level c.requires.height c.parts-at.ensures.slot
    c.parts-at.ensures.rest c.self.view_is c.requires.index in
    let was = slot_is here _ c.index_mut.result.now c.index_mut.ensures.value refl in
    let same : c.self.inside.height ≡ g.L.Level.height = ap (λ t. t.height) c.self.view_is ∙ c.requires.height in
    let now = rw (sym same) at c.cut.ensures.below in
    cut_some here _ was _ now c.in-Some.value (sym c.in-Some.is ∙ c.cut.ensures.value) c.self.inside.words c.self.inside.words _ c.self.invariant

pub index-requires : goal.index-requires
index-requires g c = let lt = (level_spot _ c.self.invariant.sound _ _ c.requires.level c.requires.height c.parts-at.ensures.slot c.parts-at.ensures.rest c.self.view_is c.requires.index).in_range in search (rules, length-set)

pub reduce-requires-clause-slot : goal.reduce-requires-clause-slot
reduce-requires-clause-slot g c =
    omega
    (arith, (level_spot _ c.self.invariant.sound _ _ c.requires.level c.requires.height c.parts-at.ensures.slot c.parts-at.ensures.rest c.self.view_is c.requires.index).in_range, c.self.invariant.sound.wide)

pub reduce-requires-clause-fits : goal.reduce-requires-clause-fits
reduce-requires-clause-fits g c =
    let here =
    level_spot _ c.self.invariant.sound _ _ c.requires.level c.requires.height c.parts-at.ensures.slot
    c.parts-at.ensures.rest c.self.view_is c.requires.index in
    let read =
    read_set c.self.inside.slots.items c.parts-at.result.0 c.cut.new.slot c.index.result.now here.in_range c.index.ensures in
    rw (read, c.requires.level) c.cut.ensures.fits

pub reduce-requires-clause-vacant : goal.reduce-requires-clause-vacant
reduce-requires-clause-vacant g c =
    let here =
    level_spot _ c.self.invariant.sound _ _ c.requires.level c.requires.height c.parts-at.ensures.slot
    c.parts-at.ensures.rest c.self.view_is c.requires.index in
    let was = slot_is here _ c.index_mut.result.now c.index_mut.ensures.value refl in
    let same : c.self.inside.height ≡ g.L.Level.height = ap (λ t. t.height) c.self.view_is ∙ c.requires.height in
    let now = rw (sym same) at c.cut.ensures.below in
    let read =
    read_set c.self.inside.slots.items c.parts-at.result.0 c.cut.new.slot c.index.result.now here.in_range c.index.ensures in
    let level : c.args.level ≡ c.self.inside.height = c.requires.level ∙ sym same in
    ap (λ s. has_below c.args.level s Free) read ∙ ap (λ h. has_below h c.cut.new.slot Free) level
    ∙ cut_vacant here _ was _ now

pub reduce-requires-clause-unmarked : goal.reduce-requires-clause-unmarked
reduce-requires-clause-unmarked g c =
    let here =
    level_spot _ c.self.invariant.sound _ _ c.requires.level c.requires.height c.parts-at.ensures.slot
    c.parts-at.ensures.rest c.self.view_is c.requires.index in
    let was = slot_is here _ c.index_mut.result.now c.index_mut.ensures.value refl in
    let same : c.self.inside.height ≡ g.L.Level.height = ap (λ t. t.height) c.self.view_is ∙ c.requires.height in
    let now = rw (sym same) at c.cut.ensures.below in
    let low : c.parts-at.result.0 < 64 = omega (arith, here.in_range, c.self.invariant.sound.wide) in
    let read =
    read_set c.self.inside.slots.items c.parts-at.result.0 c.cut.new.slot c.index.result.now here.in_range c.index.ensures in
    let level : c.args.level ≡ c.self.inside.height = c.requires.level ∙ sym same in
    λ m told. ap (λ s. has_below c.args.level s (WithMark m)) read ∙ ap (λ h. has_below h c.cut.new.slot (WithMark m)) level ∙ cut_unmarked here _ was _ now _ c.self.invariant.sound low m told

pub invariant_of-self-2 : goal.invariant_of-self-2
invariant_of-self-2 g c =
    let here =
    level_spot _ c.self.invariant.sound _ _ c.requires.level c.requires.height c.parts-at.ensures.slot
    c.parts-at.ensures.rest c.self.view_is c.requires.index in
    let was = slot_is here _ c.index_mut.result.now c.index_mut.ensures.value refl in
    let same : c.self.inside.height ≡ g.L.Level.height = ap (λ t. t.height) c.self.view_is ∙ c.requires.height in
    let now = rw (sym same) at c.cut.ensures.below in
    let read =
    read_set c.self.inside.slots.items c.parts-at.result.0 c.cut.new.slot c.index.result.now here.in_range c.index.ensures in
    let level : c.args.level ≡ c.self.inside.height = c.requires.level ∙ sym same in
    let tells = rw (read, level) at c.reduce.ensures.tells in
    cut_node here _ was _ now c.in-Some.value (sym c.in-Some.is ∙ c.cut.ensures.value) c.self.inside.words _ _ c.self.invariant
    (rw same c.cut.ensures.fits) c.cut.ensures.used c.reduce.ensures.words tells

pub returns-clause-items : goal.returns-clause-items
returns-clause-items g c =
    let here =
    level_spot _ c.self.invariant.sound _ _ c.requires.level c.requires.height c.parts-at.ensures.slot
    c.parts-at.ensures.rest c.self.view_is c.requires.index in
    let was = slot_is here _ c.index_mut.result.now c.index_mut.ensures.value refl in
    let same : c.self.inside.height ≡ g.L.Level.height = ap (λ t. t.height) c.self.view_is ∙ c.requires.height in
    let now = rw (sym same) at c.cut.ensures.below in
    cut_items here _ was _ now

pub returns-clause-value : goal.returns-clause-value
returns-clause-value g c =
    let here =
    level_spot _ c.self.invariant.sound _ _ c.requires.level c.requires.height c.parts-at.ensures.slot
    c.parts-at.ensures.rest c.self.view_is c.requires.index in
    let was = slot_is here _ c.index_mut.result.now c.index_mut.ensures.value refl in
    sym c.in-Some.is ∙ c.cut.ensures.value ∙ ap (λ o. option_map (λ s. s.value) o) (value_was here _ was)

use Rattle.std.proofs.Common.{refl, ap, ◌∙◌, subst, rules, option_map}
use Rattle.drm_index_array.specs.Slots.{Fits}
use Rattle.drm_index_array.proofs.SlotLemmas.{level_spot, slot_is}
use Rattle.drm_index_array.proofs.EditLemmas.{was_fits, value_was}
use Rattle.drm_index_array.proofs.LendLemmas.{lent_same, lent_node, lent_view, kept_node, kept_view}
use Rattle.drm_index_array.proofs.tree.Node.lend.Goals as goal

pub index_mut-requires : goal.index_mut-requires
index_mut-requires g c = let lt = (level_spot _ c.self.invariant.sound _ _ c.requires.level c.requires.height c.parts-at.ensures.slot c.parts-at.ensures.rest c.self.view_is c.requires.index).in_range in search rules

pub lend-requires-clause-fits : goal.lend-requires-clause-fits
lend-requires-clause-fits g c =
    let here =
    level_spot _ c.self.invariant.sound _ _ c.requires.level c.requires.height c.parts-at.ensures.slot c.parts-at.ensures.rest c.self.view_is c.requires.index in
    let was = slot_is here _ c.index_mut.result.now c.index_mut.ensures.value refl in
    let height = ap (λ t. t.height) c.self.view_is ∙ c.requires.height in
    subst (λ h. Fits h c.index_mut.result.now) height (was_fits here _ was)

pub invariant_of-self-lent : goal.invariant_of-self-lent
invariant_of-self-lent g c =
    let here =
    level_spot _ c.self.invariant.sound _ _ c.requires.level c.requires.height c.parts-at.ensures.slot c.parts-at.ensures.rest c.self.view_is c.requires.index in
    let was = slot_is here _ c.index_mut.result.now c.index_mut.ensures.value refl in
    λ _. (lent_node here _ was _ _ c.self.invariant, kept_node here _ was _ _ c.self.invariant)

pub returns : goal.returns
returns g c =
    let here =
    level_spot _ c.self.invariant.sound _ _ c.requires.level c.requires.height c.parts-at.ensures.slot c.parts-at.ensures.rest c.self.view_is c.requires.index in
    let was = slot_is here _ c.index_mut.result.now c.index_mut.ensures.value refl in
    (lent_same _ _ _ _ _ (lent_view here _ was) (kept_view here _ was), record { writes_back = tt; value = c.lend.ensures.value ∙ ap (λ o. option_map (λ s. s.value) o) (value_was here _ was) })

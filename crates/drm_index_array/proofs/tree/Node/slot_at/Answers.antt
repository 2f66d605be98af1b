use Rattle.std.proofs.Common.{◌<◌, ◌+◌, ◌*◌, ◌%◌, ◌∙◌, ap, sym, refl, rules, subst}
use Rattle.std.proofs.lemmas.Nat.{pow_pos}
use Rattle.std.proofs.Math.Nat.{mod-lt}
use Rattle.drm_index_array.specs.Tree.{span}
use Rattle.drm_index_array.specs.Slots.{Fits, below}
use Rattle.drm_index_array.proofs.SlotLemmas.{level_spot, slot_is, rest_in_node}
use Rattle.drm_index_array.proofs.EditLemmas.{was_fits, value_was}
use Rattle.drm_index_array.proofs.tree.Node.slot_at.Goals as goal

pub index-requires : goal.index-requires
index-requires g c =
    let lt =
    (level_spot _ c.self.invariant.sound _ _ c.requires refl c.place.ensures refl c.self.view_is
    (subst (λ h. c.args.index % span c.args.level < span h) c.requires (mod-lt c.args.index (pow_pos (6 * c.args.level + 6))))).in_range
    in
    search rules

pub returns-clause-fits : goal.returns-clause-fits
returns-clause-fits g c =
    let here =
    level_spot _ c.self.invariant.sound _ _ c.requires refl c.place.ensures refl c.self.view_is
    (subst (λ h. c.args.index % span c.args.level < span h) c.requires (mod-lt c.args.index (pow_pos (6 * c.args.level + 6)))) in
    let was = slot_is here _ c.index.result.now c.index.ensures refl in
    let height = ap (λ t. t.height) c.self.view_is ∙ sym c.requires in
    subst (λ h. Fits h c.index.result.now) height (was_fits here _ was)

pub returns-clause-below : goal.returns-clause-below
returns-clause-below g c =
    let here =
    level_spot _ c.self.invariant.sound _ _ c.requires refl c.place.ensures refl c.self.view_is
    (subst (λ h. c.args.index % span c.args.level < span h) c.requires (mod-lt c.args.index (pow_pos (6 * c.args.level + 6)))) in
    let was = slot_is here _ c.index.result.now c.index.ensures refl in
    ap (λ r. below c.index.result.now r) (sym (rest_in_node c.args.level c.args.index)) ∙ value_was here _ was

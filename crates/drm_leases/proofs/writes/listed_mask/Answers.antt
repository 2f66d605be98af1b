use Rattle.std.proofs.Common.{◌≤◌, ◌++◌, ap, sym, subst, ◌∙◌, arith}
use Rattle.std.specs.List.{AllByRecursion}
use Rattle.drm_index_array.specs.Numbers.{is_among}
use Rattle.drm_modes.specs.Topology.{object_count}
use Rattle.drm_leases.specs.Masks.{IsFixed}
use Rattle.drm_leases.proofs.Bits.{are_fixed, mask_objects}
use Rattle.drm_leases.proofs.writes.listed_mask.Goals as goal

pub mask_of-requires : goal.mask_of-requires
mask_of-requires c =
    let n = object_count c.args.modes.now.topology in
    let few : n ≤ 64 = omega (arith, c.object_count-few.ensures.count, c.object_count-few.ensures.few) in
    subst (AllByRecursion IsFixed) (sym (c.ids.ensures.ids ∙ c.listed_objects-objects.ensures))
    (are_fixed (is_among (c.args.ids.now ++ c.args.along.now)) n few)

pub returns : goal.returns
returns c =
    let n = object_count c.args.modes.now.topology in
    let few : n ≤ 64 = omega (arith, c.object_count-few.ensures.count, c.object_count-few.ensures.few) in
    mask_objects (is_among (c.args.ids.now ++ c.args.along.now)) n c.mask_of.result few
    (λ x. c.mask_of.ensures x ∙ ap (λ l. is_among l x) (c.ids.ensures.ids ∙ c.listed_objects-objects.ensures))

use Rattle.std.proofs.Common.{◌==◌, ◌<◌, ◌||◌, length, get_or, take, ap, sym, ◌∙◌, arith}
use Rattle.std.proofs.lemmas.List.{take_more}
use Rattle.std.proofs.lemmas.Option.{slice_get-get_or}
use Rattle.drm_index_array.specs.Numbers.{is_among}
use Rattle.drm_index_array.proofs.FoundInLists.{all_at}
use Rattle.drm_leases.specs.Masks.{IsFixed}
use Rattle.drm_leases.proofs.Bits.{empty_mask, one_set, among_pushed}
use Rattle.drm_leases.proofs.masks.mask_of.Goals as goal

pub loop-id-init : goal.loop-id-init
loop-id-init c = λ x. empty_mask x

pub loop-id-preserved : goal.loop-id-preserved
loop-id-preserved c = λ x.
    let ids = c.args.ids.now in
    let i = c.loop-id.id-index in
    let id = get_or ids i 0 in
    let lt : i < length ids = omega (arith, c.loop-id-test.true) in
    one_set c.loop-id.mask id x (all_at IsFixed ids i id c.requires (slice_get-get_or ids i 0 lt))
    ∙ ap (λ b. b || (id == x)) (c.loop-id.invariant x)
    ∙ sym (ap (λ l. is_among l x) (take_more ids i 0 lt) ∙ among_pushed (take i ids) id x)

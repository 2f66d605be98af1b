use Rattle.std.proofs.Common.{ℕ, ◌&&◌, not, ap, ◌∙◌}
use Rattle.drm_index_array.specs.Indexed.{Indexed}
use Rattle.drm_leases.specs.Masks.{has_object, mask_at}
use Rattle.drm_leases.proofs.LentMasks.{lent_less, lent_none}
use Rattle.drm_leases.proofs.lent.Lent.give_back.Goals as goal

pub returns-then-left-eq0 : goal.returns-then-left-eq0
returns-then-left-eq0 c =
    let masks = c.args.self.now.masks.items in
    let is =
    λ (x : ℕ). c.without-left.ensures x
    ∙ ap (λ k. has_object k x && not (has_object c.args.objects x)) c.mask.ensures in
    λ m x. ap (λ (a : Indexed ℕ). has_object (mask_at a.items m) x) c.remove-mask.ensures.after
    ∙ lent_none masks c.args.lessor c.without-left.result c.args.objects is c.if-left-eq0.true m x

pub returns : goal.returns
returns c =
    let masks = c.args.self.now.masks.items in
    let is =
    λ (x : ℕ). c.without-left.ensures x
    ∙ ap (λ k. has_object k x && not (has_object c.args.objects x)) c.mask.ensures in
    λ m x. lent_less masks c.args.lessor c.without-left.result c.args.objects is m x

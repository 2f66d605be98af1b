use Rattle.std.proofs.Common.{ℕ, ap, ◌∙◌, nat_cmp}
use Rattle.std.specs.Prelude.{unwrap_or}
use Rattle.std.specs.FinMap as fin
use Rattle.drm_index_array.specs.Indexed.{Indexed}
use Rattle.drm_leases.specs.Masks.{has_object, mask_at}
use Rattle.drm_leases.proofs.Bits.{empty_mask}
use Rattle.drm_leases.proofs.lent.Lent.new.Goals as goal

pub returns : goal.returns
returns c =
    λ m x. ap (λ (a : Indexed ℕ). has_object (mask_at a.items m) x) c.new.ensures
    ∙ ap (λ o. has_object (unwrap_or o 0) x) (fin.get-empty nat_cmp m) ∙ empty_mask x

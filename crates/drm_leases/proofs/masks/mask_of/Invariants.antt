use Rattle.std.proofs.Common.{◌≡◌, ℕ, take}
use Rattle.drm_index_array.specs.Numbers.{is_among}
use Rattle.drm_leases.specs.Masks.{has_object}
use Rattle.drm_leases.proofs.masks.mask_of.Given as goal

-- the objects of those that were looked at
abbrev pub invariant-loop-id : goal.invariant-loop-id
invariant-loop-id l = (x : ℕ) → has_object l.mask x ≡ is_among (take l.id-index l.ids) x

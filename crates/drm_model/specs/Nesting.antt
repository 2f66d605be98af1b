-- How leases lie in one another, each in that of its lessor, down to a last depth (drm-uapi, leases; the depth is own).
use Rattle.std.specs.Prelude.{◌≡◌, ℕ, ◌≤◌, true, Some}
use Rattle.std.specs.Option.{is_some}
use Rattle.drm_model.specs.Rows.{Rows}
use Rattle.drm_model.specs.Masters.{lessor_of, depth_of}
use Rattle.drm_model.specs.Sees.{is_granted}
use Rattle.drm_modes.specs.LeaseRules.{last_depth}

-- no master is deeper than the last depth; and what the lease of a lessee has, that of its lessor has too, where that is a
-- lessee
pub record LeasesNest (w : Rows) : Type 0 where
  pub depths : (m : ℕ) → depth_of w.masters m ≤ last_depth
  pub grants : (m lessor x : ℕ) → lessor_of w.masters m ≡ Some lessor → is_some (lessor_of w.masters lessor) ≡ true
      → is_granted w m x ≡ true → is_granted w lessor x ≡ true

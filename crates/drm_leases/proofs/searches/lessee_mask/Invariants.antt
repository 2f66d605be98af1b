use Rattle.std.proofs.Common.{◌≡◌, ◌≤◌, ℕ, false, take}
use Rattle.std.specs.List.{list_any}
use Rattle.std.specs.Option.{option_map_or}
use Rattle.drm_masters.specs.Masters.{master_at}
use Rattle.drm_leases.specs.declared.rows.Lease.{Lease}
use Rattle.drm_leases.specs.Leases.{is_direct_lessee}
use Rattle.drm_leases.specs.Masks.{has_object}
use Rattle.drm_leases.proofs.searches.lessee_mask.Given as goal

-- the ids of those that were looked at
abbrev pub invariant-loop-position : goal.invariant-loop-position
invariant-loop-position l =
    (id : ℕ) → 1 ≤ id → id ≤ 64
    → has_object l.mask id ≡ list_any (λ (x : Lease). option_map_or (is_direct_lessee l.master id) (master_at l.masters.masters x.lessee) false) (take l.position l.granted.rows)

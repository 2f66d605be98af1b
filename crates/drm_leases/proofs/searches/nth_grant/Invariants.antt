use Rattle.std.proofs.Common.{◌≡◌, drop}
use Rattle.std.specs.Prelude.{slice_get}
use Rattle.drm_leases.specs.Masks.{grants_in}
use Rattle.drm_leases.proofs.searches.nth_grant.Given as goal

-- what is left to be passed over follows the leases that were
abbrev pub invariant-loop-at : goal.invariant-loop-at
invariant-loop-at l =
    slice_get (grants_in l.granted.rows) l.position ≡ slice_get (grants_in (drop l.at l.granted.rows)) l.left

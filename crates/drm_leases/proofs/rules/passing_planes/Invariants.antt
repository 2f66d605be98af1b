use Rattle.std.proofs.Common.{◌≡◌, ◌≤◌, ◌++◌, drop, filter, length}
use Rattle.drm_leases.specs.Views.{is_controlled}
use Rattle.drm_leases.proofs.rules.passing_planes.Given as goal

-- the planes so far, and those to come
abbrev pub invariant-loop-plane : goal.invariant-loop-plane
invariant-loop-plane l =
    record {
      told : l.list ++ filter (is_controlled l.controlled) (drop l.plane-index l.planes) ≡ filter (is_controlled l.controlled) l.planes;
      short : length l.list ≤ l.plane-index;
    }

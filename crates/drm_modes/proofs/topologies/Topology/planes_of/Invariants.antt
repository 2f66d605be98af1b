use Rattle.std.proofs.Common.{◌≡◌, ◌≤◌, ◌++◌, false, drop, filter, length}
use Rattle.std.specs.Option.{option_map_or}
use Rattle.drm_index_array.specs.Numbers.{is_among}
use Rattle.drm_modes.specs.Topology.{crtc_of_plane, planes_of, plane_ids}
use Rattle.drm_modes.proofs.topologies.Topology.planes_of.Given as goal

-- the planes so far, and those to come
abbrev pub invariant-loop-plane : goal.invariant-loop-plane
invariant-loop-plane l =
    record {
      told : l.list ++ filter (λ x. option_map_or (is_among l.crtcs) (crtc_of_plane l.self x) false) (drop l.plane-index (plane_ids l.self)) ≡ planes_of l.self l.crtcs;
      short : length l.list ≤ l.plane-index;
    }

-- The functions of a topology, over its value (drm-uapi, mode setting).
use Rattle.std.specs.Prelude.{ℕ, List, length, replicate}
use Rattle.drm_modes.specs.declared.kinds.PlaneKind.{PlaneKind}
use Rattle.drm_modes.specs.declared.kinds.PlaneKind.TheVariants.{Overlay}
use Rattle.drm_modes.specs.Topology.{Topology}

-- the topology with these parts
abbrev pub topology_with : ℕ → List ℕ → List PlaneKind → List ℕ → List ℕ → Topology
topology_with crtcs planes kinds encoders connectors =
    record { crtcs = crtcs; planes = planes; kinds = kinds; encoders = encoders; connectors = connectors }

-- all planes are overlay planes
abbrev pub topology_of : ℕ → List ℕ → List ℕ → List ℕ → Topology
topology_of crtcs planes encoders connectors =
    topology_with crtcs planes (replicate (length planes) Overlay) encoders connectors

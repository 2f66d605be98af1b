use Rattle.std.proofs.Common.{◌≡◌, false, true, refl}
use Rattle.drm_modes.specs.Numbers.{numbers_from}
use Rattle.drm_modes.specs.PlaneKinds.{are_kinds}
use Rattle.drm_modes.specs.Topology.{are_objects}
use Rattle.drm_runs.proofs.devices.test_topology.Goals as goal

pub unreachable-requires : goal.unreachable-requires
unfolding are_objects are_kinds numbers_from
unreachable-requires c = let e : false ≡ true = c.in-None.ensures.made.1 refl in cc

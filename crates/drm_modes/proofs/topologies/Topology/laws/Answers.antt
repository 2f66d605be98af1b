use Rattle.drm_modes.proofs.Fixed.{topology_is}
use Rattle.drm_modes.proofs.topologies.Topology.laws.Goals as goal

pub returns : goal.returns
returns c = rw (← c.self.view_is) (topology_is _ c.self.invariant)

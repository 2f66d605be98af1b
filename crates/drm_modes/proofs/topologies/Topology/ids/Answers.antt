use Rattle.std.proofs.Common.{arith}
use Rattle.drm_modes.proofs.Fixed.{few_of_kind}
use Rattle.drm_modes.proofs.topologies.Topology.ids.Goals as goal

pub append_ids-requires : goal.append_ids-requires
append_ids-requires c = rw c.new-ids.ensures (record { room = omega (arith, few_of_kind c.args.self.now c.laws.ensures c.args.kind) })

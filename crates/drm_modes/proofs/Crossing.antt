-- That a topology and modes may cross threads.
use denote.Struct.Declared.{shape}
use denote.Param.Send.{IsSend, sendable, view_send, recorded_send, struct_send}
use Rattle.arrayvec.proofs.array_vec.ArrayVec.TheSendSync as list
use Rattle.drm_id_alloc.proofs.Crossing.{groups_send, table_send}
use Rattle.drm_modes.specs.contracts.topologies.Topology as topology
use Rattle.drm_modes.specs.contracts.topologies.Topology.TheInside as topology_inside
use Rattle.drm_modes.specs.contracts.rows.Fb as pixels
use Rattle.drm_modes.specs.contracts.modes.Modes as modes
use Rattle.drm_modes.specs.contracts.modes.Modes.TheInside as modes_inside

-- A topology may cross threads.
pub topology_send : IsSend topology.the_row
topology_send =
    view_send topology_inside.the_row _ _ _ _
    (recorded_send topology_inside.the_field.row _ _ topology_inside.the_type.to_one
    (struct_send (shape topology_inside.the_type) (search sendable depth 20, (search (list.the_send, sendable) depth 20, (search (list.the_send, sendable) depth 20, (search (list.the_send, sendable) depth 20, (search (list.the_send, sendable) depth 20, tt)))))))

pixels_send : IsSend pixels.the_row
pixels_send =
    recorded_send pixels.the_field.row _ _ pixels.the_type.to_one
    (struct_send (shape pixels.the_type) (search sendable depth 20, (search sendable depth 20, (search sendable depth 20, tt))))

modes_inside_send : IsSend modes_inside.the_row
modes_inside_send =
    recorded_send modes_inside.the_field.row _ _ modes_inside.the_type.to_one
    (struct_send (shape modes_inside.the_type) (topology_send, (search (table_send, pixels_send, sendable) depth 20, (groups_send, (search (list.the_send, sendable) depth 20, tt)))))

-- A set of modes may cross threads.
pub modes_send : IsSend modes.the_row
modes_send = view_send modes_inside.the_row _ _ _ _ modes_inside_send

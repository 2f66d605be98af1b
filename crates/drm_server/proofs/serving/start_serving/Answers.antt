use mir.Syntax.{named}
use denote.Exit.{no}
use denote.Param.{param}
use denote.RattleType.{RattleType}
use denote.Struct.Declared.{shape}
use denote.Struct.Field.{shr_ref_field}
use denote.Param.Send.{IsSend, IsSync, arg_send, param_send, recorded_send, sendable, shr_send, struct_send}
use Rattle.std.proofs.Common.{[], ◌∷◌, codes}
use Rattle.std.proofs.Crossing.{crosses, send}
use Rattle.std.proofs.result.Result.TheSendSync as result
use Rattle.std.specs.contracts.alloc.Global as global
use Rattle.std.specs.contracts.net.unix.UnixStream as stream
use Rattle.drm_device.proofs.Crossing.{device_send}
use Rattle.drm_turns.proofs.Crossing.{closure_send}
use Rattle.drm_listeners.proofs.serve_faults.ServeFault.TheSendSync as fault
use Rattle.drm_listeners.specs.contracts.serving.Unserved as unserved
use Rattle.drm_connections.proofs.open_connections.OpenConnections.TheSendSync as crossing
use Rattle.drm_connections.specs.contracts.open_connections.OpenConnections as open_connections
use Rattle.drm_server.proofs.command_line.Accepts.TheSendSync as accepts
use Rattle.drm_server.specs.contracts.serving.Task as task
use Rattle.drm_server.proofs.serving.start_serving.Goals as goal

task_send : IsSend task.the_row
task_send =
    recorded_send _ _ _ task.the_type.to_one
    (struct_send (shape task.the_type) (device_send, (search (crosses, sendable) depth 20, (accepts.the_field_send, tt))))

unserved_send : IsSend unserved.the_row
unserved_send =
    recorded_send _ _ _ unserved.the_type.to_one
    (struct_send (shape unserved.the_type) (fault.the_field_send, (device_send, tt)))

open_sync : IsSync open_connections.the_row
open_sync = crossing.the_sync

-- what the thread takes along: the runtime by `&`, the allocator, the device with its listeners, the open connections by `&`, and
-- an end of a connection
pub spawn-server-requires-send-F : goal.spawn-server-requires-send-F
spawn-server-requires-send-F g c κs within =
    let rt : RattleType = (shr_ref_field record { mir = named 5; lft = κs.1.1.1.1.1.0 } (param 1 g.row.R) tt).row in
    let connections : RattleType =
    (shr_ref_field record { mir = named 6; lft = κs.1.1.1.1.1.1.0 } open_connections.the_row tt).row in
    param_send _ _ (arg_send _ no _ (closure_send (codes "drm_server::serving::fn::start_serving::spawn+Self")
    (rt ∷ global.the_row ∷ task.the_row ∷ connections ∷ stream.the_row ∷ [])
    (shr_send _ _ _ c.type_bounds.sync-R, (send, (task_send, (shr_send _ _ _ open_sync, (search (crosses, sendable) depth 20, tt)))))))

pub spawn-server-requires-send-T : goal.spawn-server-requires-send-T
spawn-server-requires-send-T g c κs within =
    param_send _ _ (arg_send _ no _ (result.the_send _ _ device_send unserved_send))

use mir.Syntax.{named}
use denote.Exit.{no}
use denote.Param.{param}
use denote.RattleType.{RattleType}
use denote.Struct.Field.{shr_ref_field}
use denote.Param.Send.{arg_send, param_send, sendable, shr_send}
use Rattle.std.proofs.Common.{[], ◌∷◌, codes}
use Rattle.std.proofs.Crossing.{crosses}
use Rattle.std.specs.contracts.net.unix.UnixListener as listener
use Rattle.drm_turns.proofs.Crossing.{closure_send}
use Rattle.drm_connections.proofs.open_connections.OpenConnections.TheSendSync as crossing
use Rattle.drm_connections.specs.contracts.open_connections.OpenConnections as open_connections
use Rattle.drm_server.proofs.serving.start_control.Goals as goal

-- what the thread takes along: the runtime and the open connections, both by `&`, and the listener of control
pub spawn-thread-requires-send-F : goal.spawn-thread-requires-send-F
spawn-thread-requires-send-F g c κs within =
    let rt : RattleType = (shr_ref_field record { mir = named 5; lft = κs.1.1.1.1.1.0 } (param 1 g.row.R) tt).row in
    let connections : RattleType =
    (shr_ref_field record { mir = named 6; lft = κs.1.1.1.1.1.1.0 } open_connections.the_row tt).row in
    param_send _ _ (arg_send _ no _ (closure_send (codes "drm_server::serving::fn::start_control::spawn+Self")
    (rt ∷ connections ∷ listener.the_row ∷ [])
    (shr_send _ _ _ c.type_bounds.sync-R, (shr_send _ _ _ crossing.the_sync, (search (crosses, sendable) depth 20, tt)))))

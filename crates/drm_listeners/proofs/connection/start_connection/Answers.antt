use mir.Syntax.{named}
use denote.Exit.{no}
use denote.Param.{param}
use denote.RattleType.{RattleType}
use denote.Struct.Field.{shr_ref_field}
use denote.Param.Send.{arg_send, param_send, shr_send}
use Rattle.std.proofs.Common.{[], ◌∷◌, codes}
use Rattle.drm_turns.proofs.Crossing.{closure_send, participant_send}
use Rattle.drm_turns.specs.contracts.seat.Seat as participant
use Rattle.drm_listeners.proofs.connection.Connection.TheSendSync as connection
use Rattle.drm_listeners.specs.contracts.connection.Connection as connection_type
use Rattle.drm_listeners.proofs.Crossing.{served_send}
use Rattle.drm_listeners.proofs.connection.start_connection.Goals as goal

-- what the thread takes along: the runtime and the device by `&`, the participant and the connection
pub spawn_with-requires-send-F : goal.spawn_with-requires-send-F
spawn_with-requires-send-F g c κs within =
    let rt : RattleType = (shr_ref_field record { mir = named 6; lft = κs.1.1.1.1.1.1.0 } (param 1 g.row.R) tt).row in
    let shared : RattleType =
    (shr_ref_field record { mir = named 7; lft = κs.1.1.1.1.1.1.1.0 } (param 2 g.row.D) tt).row in
    param_send _ _ (arg_send _ no _ (closure_send (codes "drm_listeners::connection::fn::start_connection::spawn_with+Self") (rt ∷ shared ∷ participant.the_row ∷ connection_type.the_row ∷ [])
    (shr_send _ _ _ c.type_bounds.sync-R, (shr_send _ _ _ c.type_bounds.sync-D, (participant_send, (connection.the_send, tt))))))

pub spawn_with-requires-send-T : goal.spawn_with-requires-send-T
spawn_with-requires-send-T g c κs within = param_send _ _ (arg_send _ no _ served_send)

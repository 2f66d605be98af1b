use mir.Syntax.{named}
use denote.Exit.{no}
use denote.Param.{param}
use denote.RattleType.{RattleType}
use denote.Struct.Field.{shr_ref_field}
use denote.Param.Send.{arg_send, param_send, shr_send}
use Rattle.std.proofs.Common.{[], ◌∷◌, codes}
use Rattle.drm_turns.proofs.Crossing.{closure_send}
use Rattle.drm_listeners.proofs.listeners.start_logging.Goals as goal

-- what the thread takes along: the runtime and the device with its connections, both by `&`
pub spawn-logging-requires-send-F : goal.spawn-logging-requires-send-F
spawn-logging-requires-send-F g c κs within =
    let rt : RattleType = (shr_ref_field record { mir = named 5; lft = κs.1.1.1.1.1.0 } (param 1 g.row.R) tt).row in
    let shared : RattleType =
    (shr_ref_field record { mir = named 6; lft = κs.1.1.1.1.1.1.0 } (param 2 g.row.D) tt).row in
    param_send _ _ (arg_send _ no _ (closure_send (codes "drm_listeners::listeners::fn::start_logging::spawn+Self") (rt ∷ shared ∷ [])
    (shr_send _ _ _ c.type_bounds.sync-R, (shr_send _ _ _ c.type_bounds.sync-D, tt))))

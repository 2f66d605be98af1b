use mir.Syntax.{named}
use denote.Exit.{no}
use denote.Param.{param}
use denote.RattleType.{RattleType}
use denote.Struct.Field.{shr_ref_field}
use denote.Param.Send.{arg_send, param_send, shr_send}
use Rattle.std.proofs.Common.{[], ◌∷◌, codes}
use Rattle.drm_turns.proofs.Crossing.{closure_send}
use Rattle.drm_traffic.proofs.watch.Watch.TheSendSync as crossing
use Rattle.drm_traffic.specs.contracts.watch.Watch as watch
use Rattle.drm_server.proofs.Crossing.{trace_send}
use Rattle.drm_server.specs.contracts.tracing.Trace as trace
use Rattle.drm_server.proofs.serving.start_trace.Goals as goal

-- what the thread takes along: the runtime and the watch, both by `&`, and what it writes
pub spawn-thread-requires-send-F : goal.spawn-thread-requires-send-F
spawn-thread-requires-send-F g c κs within =
    let rt : RattleType = (shr_ref_field record { mir = named 5; lft = κs.1.1.1.1.1.0 } (param 1 g.row.R) tt).row in
    let watched : RattleType =
    (shr_ref_field record { mir = named 6; lft = κs.1.1.1.1.1.1.0 } watch.the_row tt).row in
    param_send _ _ (arg_send _ no _ (closure_send (codes "drm_server::serving::fn::start_trace::spawn+Self") (rt ∷ watched ∷ trace.the_row ∷ [])
    (shr_send _ _ _ c.type_bounds.sync-R, (shr_send _ _ _ crossing.the_sync, (trace_send, tt)))))

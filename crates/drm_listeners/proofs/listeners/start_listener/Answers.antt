use mir.Syntax.{named}
use denote.Exit.{no}
use denote.Param.{param}
use denote.RattleType.{RattleType}
use denote.Struct.Field.{shr_ref_field}
use denote.Param.Send.{arg_send, param_send, shr_send}
use Rattle.std.proofs.Common.{[], ◌∷◌, codes, subst}
use Rattle.std.proofs.Crossing.{Vec-send}
use Rattle.std.specs.contracts.alloc.Global as global
use Rattle.std.specs.contracts.impls.GlobalAllocator.TheImpl.{ghosts}
use Rattle.std.specs.contracts.vec.Vec as vec
use Rattle.drm_turns.proofs.Crossing.{closure_send, participant_send}
use Rattle.drm_turns.specs.contracts.seat.Seat as participant
use Rattle.drm_sessions.proofs.end.Session.TheSendSync as session
use Rattle.drm_sessions.specs.contracts.end.Session as session_type
use Rattle.drm_listeners.proofs.listener.Listener.TheSendSync as listener
use Rattle.drm_listeners.specs.contracts.listener.Listener as listener_type
use Rattle.drm_listeners.specs.Accepting.{Serves}
use Rattle.drm_listeners.proofs.Crossing.{listener_send}
use Rattle.drm_listeners.proofs.listeners.start_listener.Goals as goal

-- what the thread takes along: the runtime and the device by `&`, the participant, the listener and the list for its sessions
pub spawn_with-started-requires-send-F : goal.spawn_with-started-requires-send-F
spawn_with-started-requires-send-F g c κs within =
    let rt : RattleType = (shr_ref_field record { mir = named 6; lft = κs.1.1.1.1.1.1.0 } (param 1 g.row.R) tt).row in
    let shared : RattleType =
    (shr_ref_field record { mir = named 7; lft = κs.1.1.1.1.1.1.1.0 } (param 2 g.row.D) tt).row in
    let sessions : RattleType = vec.the_row session_type.the_row global.the_row ghosts in
    param_send _ _ (arg_send _ no _ (closure_send (codes "drm_listeners::listeners::fn::start_listener::spawn_with+Self")
    (rt ∷ shared ∷ participant.the_row ∷ listener_type.the_row ∷ sessions ∷ [])
    (shr_send _ _ _ c.type_bounds.sync-R, (shr_send _ _ _ c.type_bounds.sync-D, (participant_send, (listener.the_send, (Vec-send _ session.the_send, tt)))))))

pub spawn_with-started-requires-send-T : goal.spawn_with-started-requires-send-T
spawn_with-started-requires-send-T g c κs within =
    param_send _ _ (arg_send _ no _ listener_send)

pub returns-in-Err-clause-failed : goal.returns-in-Err-clause-failed
returns-in-Err-clause-failed g c =
    let served = subst (λ v. Serves v.3.terms v.2 c.spawn_with-participant.result) c.in-Err.ensures.err c.spawn_with-participant.ensures in
    (served.0, tt)

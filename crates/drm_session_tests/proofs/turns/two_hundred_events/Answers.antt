use mir.Syntax.{named}
use denote.Exit.{no}
use denote.Param.{param}
use denote.RattleType.{RattleType}
use denote.Struct.Field.{shr_ref_field}
use denote.Param.Send.{arg_send, param_send, shr_send}
use Rattle.std.proofs.Common.{[], ◌∷◌, codes}
use Rattle.drm_turns.proofs.Crossing.{closure_send, participant_send}
use Rattle.drm_turns.specs.contracts.seat.Seat as participant
use Rattle.drm_session_tests.proofs.turns.two_hundred_events.Goals as goal

-- what each thread takes along: the runtime and the device by `&`, and its participant
pub join-requires-send-F : goal.join-requires-send-F
join-requires-send-F g c κs within =
    let rt : RattleType = (shr_ref_field record { mir = named 6; lft = κs.1.1.1.1.1.1.0 } (param 0 g.row.R) tt).row in
    let shared : RattleType =
    (shr_ref_field record { mir = named 7; lft = κs.1.1.1.1.1.1.1.0 } (param 1 g.row.D) tt).row in
    param_send _ _ (arg_send _ no _ (closure_send (codes "drm_session_tests::turns::fn::two_hundred_events::join+arg2+Self") (rt ∷ shared ∷ participant.the_row ∷ [])
    (shr_send _ _ _ c.type_bounds.sync-R, (shr_send _ _ _ c.type_bounds.sync-D, (participant_send, tt)))))

pub join-requires-send-A : goal.join-requires-send-A
join-requires-send-A g c κs within = param_send _ _ (arg_send _ no _ participant_send)

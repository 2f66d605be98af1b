use mir.Syntax.{named}
use denote.Exit.{no}
use denote.Param.{param}
use denote.RattleType.{RattleType}
use denote.Struct.Field.{shr_ref_field}
use denote.Param.Send.{arg_send, param_send, shr_send}
use Rattle.std.proofs.Common.{[], ◌∷◌, codes}
use Rattle.drm_turns.proofs.Crossing.{closure_send, participant_send}
use Rattle.drm_turns.specs.contracts.seat.Seat as participant
use Rattle.drm_sessions.proofs.Crossing.{returned_send}
use Rattle.drm_sessions.proofs.jobs.Job.TheSendSync as job
use Rattle.drm_sessions.specs.contracts.jobs.Job as job_type
use Rattle.drm_sessions.proofs.jobs.start_job.Goals as goal

-- what the thread takes along: the runtime and the device by `&`, the participant and the job
pub spawn_with-requires-send-F : goal.spawn_with-requires-send-F
spawn_with-requires-send-F g c κs within =
    let rt : RattleType = (shr_ref_field record { mir = named 6; lft = κs.1.1.1.1.1.1.0 } (param 1 g.row.R) tt).row in
    let shared : RattleType =
    (shr_ref_field record { mir = named 7; lft = κs.1.1.1.1.1.1.1.0 } (param 2 g.row.D) tt).row in
    let work : RattleType = job_type.the_row (param 3 g.row.G) (param 4 g.row.S) (param 5 g.row.K) in
    param_send _ _ (arg_send _ no _ (closure_send (codes "drm_sessions::jobs::fn::start_job::spawn_with+Self") (rt ∷ shared ∷ participant.the_row ∷ work ∷ []) (
      shr_send _ _ _ c.type_bounds.sync-R,
      (
        shr_send _ _ _ c.type_bounds.sync-D,
        (
          participant_send,
          (job.the_send _ _ _ c.type_bounds.send-G c.type_bounds.send-S c.type_bounds.send-K, tt),
        ),
      ),
    )))

pub spawn_with-requires-send-T : goal.spawn_with-requires-send-T
spawn_with-requires-send-T g c κs within =
    param_send _ _ (arg_send _ no _ (returned_send _ _ c.type_bounds.send-S c.type_bounds.send-K))

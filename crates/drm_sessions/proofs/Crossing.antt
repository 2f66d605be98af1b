-- That what a job's thread takes along and returns may cross threads.
use denote.RattleType.{RattleType}
use denote.Struct.Declared.{shape}
use denote.Param.Send.{IsSend, recorded_send, sendable, struct_send}
use Rattle.std.proofs.Crossing.{crosses}
use Rattle.drm_turns.proofs.Crossing.{participant_send}
use Rattle.drm_sessions.proofs.end.Session.TheSendSync as session
use Rattle.drm_sessions.specs.contracts.jobs.Finished as finished
use Rattle.drm_sessions.specs.contracts.jobs.Returned as returned

finished_send : (S K : RattleType) → IsSend S → IsSend K → IsSend (finished.the_field S K).row
finished_send S K s k =
    struct_send (shape (finished.the_type S K))
    (session.the_field_send, (s, (k, (search (participant_send, crosses, sendable) depth 20, tt))))

-- What a job's thread returns may be sent to another thread if its source and its sink may.
pub returned_send : (S K : RattleType) → IsSend S → IsSend K → IsSend (returned.the_row S K)
returned_send S K s k = recorded_send _ _ _ (returned.the_type S K).to_one
    (struct_send (shape (returned.the_type S K)) (finished_send S K s k, (participant_send, tt)))

-- That what the threads of connections and listeners return back may cross threads.
use denote.Struct.Declared.{shape}
use denote.Param.Send.{IsSend, recorded_send, struct_send}
use Rattle.std.proofs.Crossing.{Vec-send}
use Rattle.std.proofs.result.Result.TheSendSync as result
use Rattle.drm_turns.proofs.Crossing.{participant_send}
use Rattle.drm_sessions.proofs.end.Session.TheSendSync as session
use Rattle.drm_sessions.specs.contracts.through.Served as served
use Rattle.drm_listeners.proofs.serve_faults.ServeFault.TheSendSync as fault
use Rattle.drm_listeners.proofs.accepting.Closing.TheSendSync as closing
use Rattle.drm_listeners.specs.contracts.accepting.Account as account
use Rattle.drm_listeners.specs.contracts.accepting.ServedListener as listener
use Rattle.drm_listeners.specs.contracts.listeners.Job as job
use Rattle.drm_listeners.proofs.listener.Listener.TheSendSync as to_serve

-- A connection that was served may be sent to another thread.
pub served_send : IsSend served.the_row
served_send =
    recorded_send _ _ _ served.the_type.to_one
    (struct_send (shape served.the_type) (session.the_field_send, (participant_send, tt)))

-- A listener's account may be sent to another thread.
account_send : IsSend account.the_row
account_send =
    recorded_send _ _ _ account.the_type.to_one
    (struct_send (shape account.the_type) (Vec-send _ session.the_send, (closing.the_field_send, tt)))

-- A listener that was served may be sent to another thread.
pub listener_send : IsSend listener.the_row
listener_send =
    recorded_send _ _ _ listener.the_type.to_one
    (struct_send (shape listener.the_type) (participant_send, (result.the_field_send _ _ account_send fault.the_send, tt)))

-- A listener that is to be served may be sent to another thread.
pub job_send : IsSend job.the_row
job_send =
    recorded_send _ _ _ job.the_type.to_one
    (struct_send (shape job.the_type) (participant_send, (to_serve.the_field_send, (Vec-send _ session.the_send, tt))))

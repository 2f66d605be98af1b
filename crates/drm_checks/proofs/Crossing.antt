-- That the writer of a journal may cross threads.
use denote.Struct.Declared.{shape}
use denote.Param.Send.{IsSend, recorded_send, sendable, struct_send, view_send}
use Rattle.std.proofs.Crossing.{crosses}
use Rattle.drm_device.proofs.Crossing.{device_send}
use Rattle.drm_checks.specs.contracts.writer.JournalWriter as writer
use Rattle.drm_checks.specs.contracts.writer.JournalWriter.TheInside as inside

inside_send : IsSend inside.the_row
inside_send =
    recorded_send
    inside.the_field.row
    _
    _
    inside.the_type.to_one
    (struct_send (shape inside.the_type) (device_send, (search (crosses, sendable) depth 20, (search (crosses, sendable) depth 20, (search (crosses, sendable) depth 20, tt)))))

-- The writer of a journal may be sent to another thread.
pub writer_send : IsSend writer.the_row
writer_send = view_send inside.the_row _ _ _ _ inside_send

-- That a device may cross threads.
use denote.Struct.Declared.{shape}
use denote.Param.Send.{IsSend, sendable, view_send, recorded_send, struct_send}
use Rattle.std.proofs.Crossing.{Vec-send}
use Rattle.drm_table.proofs.events.Event.TheSendSync as event
use Rattle.drm_table.proofs.limits.Limits.TheSendSync as limits
use Rattle.drm_state.proofs.Crossing.{state_send}
use Rattle.drm_device.specs.contracts.journal.Journal as journal
use Rattle.drm_device.specs.contracts.journal.Journal.TheInside as journal_inside
use Rattle.drm_device.specs.contracts.device.Device as device
use Rattle.drm_device.specs.contracts.device.Device.TheInside as inside

journal_inside_send : IsSend journal_inside.the_row
journal_inside_send =
    recorded_send
    journal_inside.the_field.row
    _
    _
    journal_inside.the_type.to_one
    (struct_send (shape journal_inside.the_type) (Vec-send _ event.the_send, (search sendable depth 20, tt)))

journal_send : IsSend journal.the_row
journal_send = view_send journal_inside.the_row _ _ _ _ journal_inside_send

inside_send : IsSend inside.the_row
inside_send =
    recorded_send
    inside.the_field.row
    _
    _
    inside.the_type.to_one
    (struct_send (shape inside.the_type) (limits.the_field_send, (journal_send, (state_send, tt))))

-- A device may be sent to another thread.
pub device_send : IsSend device.the_row
device_send = view_send inside.the_row _ _ _ _ inside_send

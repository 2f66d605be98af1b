-- That what writes the lines of a trace may cross threads.
use denote.Struct.Declared.{shape}
use denote.Param.Send.{IsSend, sendable, struct_send}
use Rattle.std.proofs.Crossing.{crosses}
use Rattle.drm_device.proofs.Crossing.{device_send}
use Rattle.drm_script.proofs.texts.LineText.TheSendSync as line
use Rattle.drm_traffic.proofs.tracer.Palette.TheSendSync as palette
use Rattle.drm_traffic.specs.contracts.tracer.Tracer as tracer

-- A struct whose field is what writes the lines of a trace may take it to another thread.
pub tracer_send : IsSend tracer.the_field.row
tracer_send =
    struct_send (shape tracer.the_type) (device_send, (search (crosses, sendable) depth 20, (palette.the_field_send, (line.the_send, tt))))

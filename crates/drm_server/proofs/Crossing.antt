-- That what writes while a device is served may cross threads.
use denote.Struct.Declared.{shape}
use denote.Param.Send.{IsSend, recorded_send, sendable, struct_send}
use Rattle.std.proofs.Crossing.{crosses}
use Rattle.drm_traffic.proofs.batch.Batch.TheSendSync as batch
use Rattle.drm_checks.proofs.Crossing.{writer_send}
use Rattle.drm_traffic.proofs.Crossing.{tracer_send}
use Rattle.drm_connections.proofs.outlet.Outlet.TheSendSync as outlet
use Rattle.drm_server.specs.contracts.growing_journal.GrowingJournal as journal
use Rattle.drm_server.specs.contracts.tracing.Trace as trace

-- A journal that grows may be sent to another thread.
pub journal_send : IsSend journal.the_row
journal_send =
    recorded_send _ _ _ journal.the_type.to_one
    (struct_send (shape journal.the_type) (outlet.the_field_send, (writer_send, (search (crosses, sendable) depth 20, (batch.the_field_send, tt)))))

-- A trace may be sent to another thread.
pub trace_send : IsSend trace.the_row
trace_send =
    recorded_send _ _ _ trace.the_type.to_one
    (struct_send (shape trace.the_type) (outlet.the_field_send, (tracer_send, (search (crosses, sendable) depth 20, (batch.the_field_send, (search (crosses, sendable) depth 20, (search (crosses, sendable) depth 20, (search (crosses, sendable) depth 20, tt))))))))

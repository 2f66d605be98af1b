-- That files may cross threads.
use denote.Struct.Declared.{shape}
use denote.Param.Send.{IsSend, sendable, view_send, recorded_send, struct_send}
use Rattle.std.proofs.Crossing.{Vec-send}
use Rattle.drm_index_array.proofs.Crossing.{array_send}
use Rattle.drm_id_alloc.proofs.Crossing.{table_send}
use Rattle.drm_files.specs.contracts.files.Held as held
use Rattle.drm_files.specs.contracts.orders.Neighbours as neighbours
use Rattle.drm_files.specs.contracts.orders.ExportOrders as orders
use Rattle.drm_files.specs.contracts.files.FileRecord as record_of
use Rattle.drm_files.specs.contracts.files.Files as files
use Rattle.drm_files.specs.contracts.files.Files.TheInside as inside

held_send : IsSend held.the_row
held_send =
    recorded_send held.the_field.row _ _ held.the_type.to_one
    (struct_send (shape held.the_type) (search sendable depth 20, (search sendable depth 20, tt)))

neighbours_send : IsSend neighbours.the_row
neighbours_send =
    recorded_send neighbours.the_field.row _ _ neighbours.the_type.to_one
    (struct_send (shape neighbours.the_type) (search sendable depth 20, (search sendable depth 20, tt)))

orders_send : IsSend orders.the_field.row
orders_send =
    struct_send (shape orders.the_type)
    (search (Vec-send, neighbours_send, sendable) depth 20, (search (array_send, neighbours_send, sendable) depth 20, tt))

record_send : IsSend record_of.the_row
record_send =
    recorded_send
    record_of.the_field.row
    _
    _
    record_of.the_type.to_one
    (struct_send (shape record_of.the_type) (search sendable depth 20, (search (table_send, held_send, sendable) depth 20, (orders_send, tt))))

inside_send : IsSend inside.the_row
inside_send =
    recorded_send
    inside.the_field.row
    _
    _
    inside.the_type.to_one
    (struct_send (shape inside.the_type) (search sendable depth 20, (search (array_send, record_send, sendable) depth 20, (search sendable depth 20, (search sendable depth 20, tt)))))

-- A set of files may cross threads.
pub files_send : IsSend files.the_row
files_send = view_send inside.the_row _ _ _ _ inside_send

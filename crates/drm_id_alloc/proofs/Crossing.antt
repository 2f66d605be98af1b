-- Number tables may cross threads as their values may, and groups may.
use denote.RattleType.{RattleType}
use denote.Struct.Declared.{shape}
use denote.Enum.Declared as enums
use denote.Param.Send.{IsSend, sendable, view_send, recorded_send, struct_send, enum_send}
use Rattle.drm_index_array.proofs.Crossing.{array_send}
use Rattle.drm_id_alloc.specs.contracts.table.IdTable as table
use Rattle.drm_id_alloc.specs.contracts.table.IdTable.TheInside as inside
use Rattle.drm_id_alloc.specs.contracts.numbers.Kept as kept
use Rattle.drm_id_alloc.specs.contracts.numbers.Numbers as numbers
use Rattle.drm_id_alloc.specs.contracts.numbers.Numbers.TheInside as numbers_inside
use Rattle.drm_id_alloc.specs.contracts.groups.Groups as groups
use Rattle.drm_id_alloc.specs.contracts.groups.Groups.TheInside as groups_inside

inside_send : (T : RattleType) → IsSend T → IsSend (inside.the_row T)
inside_send T s =
    recorded_send
    (inside.the_field T).row
    _
    _
    (inside.the_type T).to_one
    (struct_send (shape (inside.the_type T)) (search (array_send, s, sendable) depth 20, (search sendable depth 20, (search sendable depth 20, (search sendable depth 20, (search sendable depth 20, tt))))))

-- A number table may cross threads if its values may.
pub table_send : (T : RattleType) → IsSend T → IsSend (table.the_row T)
table_send T s = view_send (inside.the_row T) _ _ _ _ (inside_send T s)

kept_send : IsSend kept.the_field.row
kept_send =
    enum_send (enums.shape kept.the_type)
    ((search sendable depth 20, tt), ((search (array_send, sendable) depth 20, tt), tt))

numbers_inside_send : IsSend numbers_inside.the_row
numbers_inside_send =
    recorded_send numbers_inside.the_field.row _ _ numbers_inside.the_type.to_one
    (struct_send (shape numbers_inside.the_type) (kept_send, tt))

numbers_send : IsSend numbers.the_row
numbers_send = view_send numbers_inside.the_row _ _ _ _ numbers_inside_send

groups_inside_send : IsSend groups_inside.the_row
groups_inside_send =
    recorded_send groups_inside.the_field.row _ _ groups_inside.the_type.to_one
    (struct_send (shape groups_inside.the_type) (search sendable depth 20, (search (array_send, numbers_send, sendable) depth 20, tt)))

-- Groups may cross threads.
pub groups_send : IsSend groups.the_row
groups_send = view_send groups_inside.the_row _ _ _ _ groups_inside_send

-- That masters may cross threads.
use denote.Struct.Declared.{shape}
use denote.Param.Send.{IsSend, sendable, view_send, recorded_send, struct_send}
use Rattle.std.proofs.Crossing.{send, frees}
use Rattle.slab.proofs.Slab.TheSendSync as slab
use Rattle.slab.specs.contracts.Slab as slabs
use Rattle.std.specs.contracts.alloc.Global as heap
use Rattle.std.specs.contracts.impls.GlobalAllocator.TheImpl as heap_impl
use Rattle.drm_index_array.proofs.Crossing.{array_send}
use Rattle.drm_id_alloc.proofs.Crossing.{groups_send}
use Rattle.drm_masters.specs.contracts.rows.Master as master
use Rattle.drm_masters.specs.contracts.members.Membership as membership
use Rattle.drm_masters.specs.contracts.members.Members as members
use Rattle.drm_masters.specs.contracts.members.Members.TheInside as members_inside
use Rattle.drm_masters.specs.contracts.ids.OwnerIds as ids
use Rattle.drm_masters.specs.contracts.ids.OwnerIds.TheInside as ids_inside
use Rattle.drm_masters.specs.contracts.table.MasterTable as table
use Rattle.drm_masters.specs.contracts.table.MasterTable.TheInside as table_inside
use Rattle.drm_masters.specs.contracts.masters.Masters as masters
use Rattle.drm_masters.specs.contracts.masters.Masters.TheInside as inside

master_send : IsSend master.the_row
master_send =
    recorded_send
    master.the_field.row
    _
    _
    master.the_type.to_one
    (struct_send (shape master.the_type) (search sendable depth 20, (search sendable depth 20, (search sendable depth 20, (search sendable depth 20, (search sendable depth 20, tt))))))

membership_send : IsSend membership.the_row
membership_send =
    recorded_send membership.the_field.row _ _ membership.the_type.to_one (struct_send (shape membership.the_type) (search sendable depth 20, (search sendable depth 20, (search sendable depth 20, (search sendable depth 20, tt)))))

members_inside_send : IsSend members_inside.the_row
members_inside_send =
    recorded_send members_inside.the_field.row _ _ members_inside.the_type.to_one (struct_send (shape members_inside.the_type) (search (array_send, membership_send, sendable) depth 20, (groups_send, tt)))

members_send : IsSend members.the_row
members_send = view_send members_inside.the_row _ _ _ _ members_inside_send

slab_send : IsSend (slabs.the_row master.the_row heap.the_row heap_impl.ghosts)
slab_send = slab.the_send master.the_row heap.the_row heap_impl.ghosts master_send send frees

ids_inside_send : IsSend ids_inside.the_row
ids_inside_send =
    recorded_send ids_inside.the_field.row _ _ ids_inside.the_type.to_one
    (struct_send (shape ids_inside.the_type) (search sendable depth 20, (search (array_send, sendable) depth 20, tt)))

ids_send : IsSend ids.the_row
ids_send = view_send ids_inside.the_row _ _ _ _ ids_inside_send

table_inside_send : IsSend table_inside.the_row
table_inside_send =
    recorded_send table_inside.the_field.row _ _ table_inside.the_type.to_one (struct_send (shape table_inside.the_type) (search (array_send, sendable) depth 20, (search (slab_send, sendable) depth 20, (groups_send, (ids_send, tt)))))

table_send : IsSend table.the_row
table_send = view_send table_inside.the_row _ _ _ _ table_inside_send

inside_send : IsSend inside.the_row
inside_send =
    recorded_send
    inside.the_field.row
    _
    _
    inside.the_type.to_one
    (struct_send (shape inside.the_type) (members_send, (table_send, (search sendable depth 20, (search sendable depth 20, (search sendable depth 20, tt))))))

-- A set of masters may cross threads.
pub masters_send : IsSend masters.the_row
masters_send = view_send inside.the_row _ _ _ _ inside_send

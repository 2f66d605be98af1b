-- That objects may cross threads.
use denote.Struct.Declared.{shape}
use denote.Param.Send.{IsSend, sendable, view_send, recorded_send, struct_send}
use Rattle.std.proofs.Crossing.{send, frees}
use Rattle.slab.proofs.Slab.TheSendSync as slab
use Rattle.slab.specs.contracts.Slab as slabs
use Rattle.std.specs.contracts.alloc.Global as heap
use Rattle.std.specs.contracts.impls.GlobalAllocator.TheImpl as heap_impl
use Rattle.drm_index_array.proofs.Crossing.{array_send}
use Rattle.drm_gem.specs.contracts.object.Object as object
use Rattle.drm_gem.specs.contracts.objects.Objects as objects
use Rattle.drm_gem.specs.contracts.objects.Objects.TheInside as inside

object_send : IsSend object.the_row
object_send =
    recorded_send object.the_field.row _ _ object.the_type.to_one
    (struct_send (shape object.the_type) (search sendable depth 20, (search sendable depth 20, (search sendable depth 20, (search sendable depth 20, (search sendable depth 20, (search sendable depth 20, tt)))))))

slab_send : IsSend (slabs.the_row object.the_row heap.the_row heap_impl.ghosts)
slab_send = slab.the_send object.the_row heap.the_row heap_impl.ghosts object_send send frees

inside_send : IsSend inside.the_row
inside_send =
    recorded_send inside.the_field.row _ _ inside.the_type.to_one (struct_send (shape inside.the_type) (search (array_send, sendable) depth 20, (search (slab_send, sendable) depth 20, (search sendable depth 20, tt))))

-- A set of objects may cross threads.
pub objects_send : IsSend objects.the_row
objects_send = view_send inside.the_row _ _ _ _ inside_send

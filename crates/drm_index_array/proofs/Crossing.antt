-- Which arrays may cross threads: as their values. Types that lead to each other by their fields have no `Send` that is
-- derived, so the crates above cite this.
use denote.RattleType.{RattleType}
use denote.Struct.Declared.{shape}
use denote.Param.Send.{IsSend, sendable, view_send, recorded_send, struct_send}
use Rattle.std.proofs.Crossing.{Vec-send, Box-send}
use Rattle.drm_index_array.proofs.tree.Node.TheLaws.TheKnot.{send-Node}
use Rattle.drm_index_array.specs.contracts.array.IndexArray as array
use Rattle.drm_index_array.specs.contracts.array.IndexArray.TheInside as inside
use Rattle.drm_index_array.specs.contracts.entry.Entry as entry
use Rattle.drm_index_array.specs.contracts.tree.Node as node
use Rattle.drm_index_array.specs.contracts.spares.Spares as spares

entry_send : (T : RattleType) → IsSend T → IsSend (entry.the_row T)
entry_send T s =
    recorded_send (entry.the_field T).row _ _ (entry.the_type T).to_one (struct_send (shape (entry.the_type T)) (search (s, sendable) depth 20, (search sendable depth 20, (search sendable depth 20, (search sendable depth 20, tt)))))

node_send : (T : RattleType) → IsSend T → IsSend (node.the_row T)
node_send T s =
    send-Node
    T
    (search sendable depth 20)
    (λ h k. Vec-send h k)
    (search sendable depth 20)
    (search sendable depth 20)
    (search (entry_send T s, sendable) depth 20)
    (λ h k. Box-send h k)

spares_send : (T : RattleType) → IsSend T → IsSend (spares.the_field T).row
spares_send T s =
    struct_send
    (shape (spares.the_type T))
    (search (Box-send (node.the_row T) (node_send T s), sendable) depth 20, (search (Box-send (node.the_row T) (node_send T s), sendable) depth 20, tt))

inside_send : (T : RattleType) → IsSend T → IsSend (inside.the_row T)
inside_send T s =
    recorded_send
    (inside.the_field T).row
    _
    _
    (inside.the_type T).to_one
    (struct_send (shape (inside.the_type T)) (search sendable depth 20, (search (Box-send (node.the_row T) (node_send T s), sendable) depth 20, (search sendable depth 20, (spares_send T s, tt)))))

-- An index array may cross threads if its values may.
pub array_send : (T : RattleType) → IsSend T → IsSend (array.the_row T)
array_send T s = view_send (inside.the_row T) _ _ _ _ (inside_send T s)

-- The index array after a `&mut` to one of its values is returned (own).
use Rattle.std.specs.Prelude.{ℕ, Option}
use Rattle.std.specs.Borrow.{Lends, LendsIf, Fml, RattleType, MutBor}
use Rattle.std.specs.Box.{with_value}
use Rattle.drm_index_array.specs.Indexed.{Indexed, with_item}
use Rattle.drm_index_array.specs.Marked.{set_value}
use Rattle.drm_index_array.specs.Tree.{Tree}
use Rattle.drm_index_array.specs.declared.entry.Entry.{Entry}
use Rattle.drm_index_array.specs.declared.tree.Slot.{Slot}
use Rattle.drm_index_array.specs.declared.tree.Slot.TheVariants.{Vacant, Value, Child}
use Rattle.drm_index_array.specs.contracts.array.IndexArray as array
use Rattle.drm_index_array.specs.contracts.entry.Entry as entry
use Rattle.drm_index_array.specs.contracts.tree.Node as node
use Rattle.drm_index_array.specs.contracts.tree.Slot as slot

module _ {T : Type 0} where
  -- a subtree with another value at an index that has one
  abbrev pub tree_with_value : Tree T → ℕ → T → Tree T
  tree_with_value t i w = record t { items = set_value t.items i w }

  abbrev pub slot_with_value : Slot T → ℕ → T → Slot T
  slot_with_value Vacant r w = Vacant
  slot_with_value (Value e) r w = Value (record e { value = w })
  slot_with_value (Child b) r w = Child (with_value b (tree_with_value b.value r w))

module _ (T : RattleType) where
  abbrev pub lends_entry : MutBor (Entry T.Denot) → MutBor T.Denot → Fml
  lends_entry e r = Lends (entry.the_row T) T e r (λ w. record e.now { value = w })

  abbrev pub lends_slot : MutBor (Slot T.Denot) → ℕ → Option (MutBor T.Denot) → Fml
  lends_slot s i r = LendsIf (slot.the_row T) T s r (slot_with_value s.now i) s.now

  abbrev pub lends_node : MutBor (Tree T.Denot) → ℕ → Option (MutBor T.Denot) → Fml
  lends_node a i r = LendsIf (node.the_row T) T a r (tree_with_value a.now i) a.now

  -- once the borrow r ends, the index has the last value written through r; at `None` the array is unchanged
  abbrev pub lends_get : MutBor (Indexed T.Denot) → ℕ → Option (MutBor T.Denot) → Fml
  lends_get a i r = LendsIf (array.the_row T) T a r (with_item a.now i) a.now

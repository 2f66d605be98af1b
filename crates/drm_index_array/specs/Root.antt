-- A tree, or none (own).
use Rattle.std.specs.Prelude.{◌≡◌, ℕ, ◌≤◌, IsTrue, Option, Some, None, Box}
use Rattle.std.proofs.Common.{Global}
use Rattle.std.specs.FinMap as map
use Rattle.drm_index_array.specs.Marked.{MarkedMap}
use Rattle.drm_index_array.specs.Tree.{Tree}
use Rattle.drm_index_array.specs.declared.tree.Node.{Node}

module _ {T : Type 0} where
  -- what the tree maps
  abbrev pub items_of : Option (Box (Node T) Global) → MarkedMap T
  items_of None = map.empty
  items_of (Some b) = b.value.items

  -- no index from n on has an entry
  abbrev pub IsPast : Tree T → ℕ → Type 0
  IsPast t n = (k : ℕ) → n ≤ k → map.get t.items k ≡ None

-- as many entries as are counted, each at a `u32`
pub record IsRooted {T : Type 0} (items : MarkedMap T) (count : ℕ) : Type 0 where
  pub counted : count ≡ map.len items
  pub fit : (k : ℕ) → IsTrue (map.contains_key items k) → k ≤ 4294967295

-- the facts about the root of an array
pub record IsArray {T : Type 0} (root : Option (Box (Node T) Global)) (count : ℕ) : Type 0 where
  pub rooted : IsRooted (items_of root) count

-- One level of the tree, over the subtrees in its slots (own).
use Rattle.std.specs.Prelude.{◌≡◌, ℕ, ◌+◌, ◌-◌, ◌/◌, ◌%◌, ◌<◌, ◌≤◌, Bool, Option, Some, None, is_some, List, [], ◌∷◌, length, slice_index_or}
use Rattle.std.specs.FinMap as map
use Rattle.drm_index_array.specs.Least.{least}
use Rattle.drm_index_array.specs.Marked.{Marked}
use Rattle.drm_index_array.specs.Position.{passing}
use Rattle.drm_index_array.specs.Word.{tells_of, AreWords}
use Rattle.drm_index_array.specs.Tree.{Tree, width, span, table, is_sought}
use Rattle.drm_index_array.specs.declared.words.Sought.{Sought}
use Rattle.drm_index_array.specs.declared.entry.Entry.{Entry}
use Rattle.drm_index_array.specs.declared.words.Words.{Words}
use Rattle.drm_index_array.specs.declared.tree.Slot.{Slot}
use Rattle.drm_index_array.specs.declared.tree.Slot.TheVariants.{Vacant, Value, Child}

module _ {T : Type 0} where
  abbrev pub marked : Entry T → Marked T
  marked e = record { value = e.value; m0 = e.m0; m1 = e.m1; m2 = e.m2 }

  abbrev pub option_marked : Option (Entry T) → Option (Marked T)
  option_marked None = None
  option_marked (Some e) = Some (marked e)

  -- what lies below one slot, by indices from 0
  abbrev pub below : Slot T → ℕ → Option (Marked T)
  below Vacant r = None
  below (Value e) r = Some (marked e)
  below (Child b) r = map.get b.value.items r

  abbrev pub slot : List (Slot T) → ℕ → Slot T
  slot slots i = slice_index_or slots i Vacant

  -- what lies below all of them
  abbrev pub look : ℕ → List (Slot T) → ℕ → Option (Marked T)
  look height slots q = below (slot slots (q / width height)) (q % width height)

  abbrev pub view_of : ℕ → List (Slot T) → Tree T
  view_of height slots = record { height = height; items = table (span height) (look height slots) }

  -- a slot of a node of this height
  abbrev pub Fits : ℕ → Slot T → Type 0
  Fits height Vacant = Unit {0}
  Fits height (Value v) = height ≡ 0
  Fits height (Child b) = b.value.height + 1 ≡ height

  -- an index below a slot, where a subtree lies there
  abbrev pub InSlot : ℕ → Slot T → Type 0
  InSlot r Vacant = Unit {0}
  InSlot r (Value v) = Unit {0}
  InSlot r (Child b) = r < span b.value.height

  abbrev pub AllFit : ℕ → List (Slot T) → Type 0
  AllFit height [] = Unit {0}
  AllFit height (s ∷ ss) = Fits height s × AllFit height ss

  -- a subtree below the slot is not empty
  abbrev pub IsUsed : Slot T → Type 0
  IsUsed Vacant = Unit {0}
  IsUsed (Value v) = Unit {0}
  IsUsed (Child b) = 0 < map.len b.value.items

  -- how many entries lie below the slot
  abbrev pub entries_below : ℕ → Slot T → ℕ
  entries_below height s = passing (λ r. is_some (below s r)) 0 (width height)

  -- whether some index below the slot is sought
  abbrev pub has_below : ℕ → Slot T → Sought → Bool
  has_below height s x = is_some (least (λ r. is_sought x (below s r)) 0 (width height - 1))

-- the facts about the slots of a node
pub record IsSound {T : Type 0} (height : ℕ) (slots : List (Slot T)) (words : Words) : Type 0 where
  pub wide : length slots ≡ 64
  pub low : height ≤ 5
  pub all_fit : AllFit height slots
  pub fit : AreWords words
  pub tells : (x : Sought) (i : ℕ) → i < 64 → tells_of words x i ≡ has_below height (slot slots i) x

-- the node counts its entries, and no subtree below it is empty
pub record IsNode {T : Type 0} (height : ℕ) (slots : List (Slot T)) (words : Words) (count : ℕ) : Type 0 where
  pub sound : IsSound height slots words
  pub counted : count ≡ map.len (view_of height slots).items
  pub used : (i : ℕ) → IsUsed (slot slots i)

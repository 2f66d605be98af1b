-- How many entries lie below a node, slot by slot.
use Rattle.std.proofs.Common.{◌≡◌, ℕ, ◌+◌, ◌-◌, ◌*◌, ◌/◌, ◌%◌, ◌^◌, ◌<◌, ◌≤◌, Bool, true, false, not, zero, suc, cond, ltb, List, length, get_or, set, Box, Global, None, is_some, refl, sym, ap, ◌∙◌, subst, arith}
use Rattle.std.specs.FinMap as map
use Rattle.std.proofs.lemmas.List.{get_or-set_same, get_or-set_other, get_or_read}
use Rattle.std.proofs.lemmas.Nat.{div-add-mod', pow-add, pow_pos}
use Rattle.std.proofs.Math.Nat.{mod-lt, mul-le-mul_right}
use Rattle.drm_index_array.specs.Position.{passing, IsAtPosition}
use Rattle.drm_index_array.specs.Tree.{Tree, width, span, is_sought}
use Rattle.drm_index_array.specs.Slots.{Fits as SlotFits, slot, look, below, entries_below, view_of, IsSound, IsNode}
use Rattle.drm_index_array.specs.declared.words.Words.{Words}
use Rattle.drm_index_array.specs.declared.entry.Entry.{Entry}
use Rattle.drm_index_array.specs.declared.tree.Node.{Node}
use Rattle.drm_index_array.specs.declared.tree.Slot.{Slot}
use Rattle.drm_index_array.specs.declared.tree.Slot.TheVariants.{Vacant, Value, Child}
use Rattle.drm_index_array.proofs.PlaceLemmas.{passing-split, passing-moved, passing-none, passing-all, len_counted}
use Rattle.drm_index_array.proofs.RootLemmas.{view_few}
use Rattle.drm_index_array.proofs.TableLemmas.{get-table, get-table_past}
use Rattle.drm_index_array.proofs.SlotLemmas.{value_in, index_in_span, child_span, slot_fits, told}
use Rattle.drm_index_array.proofs.NextLemmas.{none_of}
use Rattle.drm_index_array.proofs.WordLemmas.{not-not}
use Rattle.drm_index_array.specs.Word.{tells_of}
use Rattle.drm_index_array.specs.declared.words.Sought.TheVariants.{Vacant as Free}

zero_more : (r : ℕ) → r ≡ 0 + r
zero_more r = omega arith

-- the indices of a slot, and those before and after it, make up the node's
slots_span : (height at : ℕ) → at < 64
    → at * width height + (width height + (span height - (at * width height + width height))) ≡ span height
slots_span height at lt =
    let next : at + 1 ≤ 64 = omega arith in
    let m : (at + 1) * width height ≤ 64 * width height = mul-le-mul_right (width height) next in
    omega (arith, pow-add 2 (6 * height) 6)

-- an index before a slot, or after it, is in another
before_slot : (height at k : ℕ) → k < at * width height → k / width height ≡ at → ⊥
before_slot height at k lt same = omega (arith, lt, div-add-mod' k (width height), ap (λ n. n * width height) same)

after_slot : (height at k : ℕ) → at * width height + width height ≤ k → k / width height ≡ at → ⊥
after_slot height at k le same =
    omega (arith, le, div-add-mod' k (width height), mod-lt k (pow_pos (6 * height)), ap (λ n. n * width height) same)

-- Below a vacant slot are no entries.
pub vacant_counted : (T : Type 0) (height : ℕ) → 0 ≡ entries_below {T = T} height Vacant
vacant_counted T height = sym (passing-none _ 0 (width height) (λ r lt. refl))

module _ {T : Type 0} where
  abbrev pub taken : ℕ → List (Slot T) → ℕ → Bool
  taken height slots k = map.contains_key (view_of height slots).items k

  -- Below a slot with a value, at height 0, is one entry.
  pub value_counted : (e : Entry T) (height : ℕ) → height ≡ 0 → 1 ≡ entries_below height (Value e)
  unfolding passing
  value_counted e height low = rw low refl

  -- Below a slot with a subtree one level lower are all entries of the subtree.
  pub child_counted : (b : Box (Node T) Global) → ((k : ℕ) → span b.value.height ≤ k → map.get b.value.items k ≡ None)
      → (height : ℕ) → b.value.height + 1 ≡ height → map.len b.value.items ≡ entries_below height (Child b)
  child_counted b past height fit =
      len_counted b.value.items (span b.value.height) (λ k le. ap is_some (past k le))
      ∙ ap (passing (λ r. map.contains_key b.value.items r) 0) (child_span b.value.height height fit)

  -- The entries of a node at the indices of a slot are as many as lie below the slot.
  pub slot_counted : (height : ℕ) (slots : List (Slot T)) (at : ℕ) → at < 64
      → passing (taken height slots) (at * width height) (width height) ≡ entries_below height (slot slots at)
  slot_counted height slots at lt =
      passing-moved _ _ (at * width height) 0 (width height)
      (λ r within. ap is_some (value_in height slots at r lt within) ∙ ap (λ n. is_some (below (slot slots at) n)) (zero_more r))

  all_counted : (height : ℕ) (slots : List (Slot T))
      → map.len (view_of height slots).items ≡ passing (taken height slots) 0 (span height)
  all_counted height slots =
      len_counted _ (span height) (λ k le. ap is_some (get-table_past (span height) (look height slots) k le))

  -- the node's entries: those before a slot, those below it, and those after it
  parts_counted : (height : ℕ) (slots : List (Slot T)) (at : ℕ) → at < 64
      → map.len (view_of height slots).items ≡ passing (taken height slots) 0 (at * width height) + (entries_below height (slot slots at) + passing (taken height slots) (at * width height + width height) (span height - (at * width height + width height)))
  parts_counted height slots at lt =
      let p = taken height slots in
      let w = width height in
      let rest = span height - (at * w + w) in
      let start : 0 + at * w ≡ at * w = omega arith in
      let whole : passing p 0 (at * w + (w + rest)) ≡ passing p 0 (span height) =
      ap (passing p 0) (slots_span height at lt) in
      let first : passing p 0 (at * w + (w + rest)) ≡ passing p 0 (at * w) + passing p (at * w) (w + rest) =
      rw start at (passing-split p 0 (at * w) (w + rest)) in
      let second : passing p (at * w) (w + rest) ≡ passing p (at * w) w + passing p (at * w + w) rest =
      passing-split p (at * w) w rest in
      let here : passing p (at * w) w ≡ entries_below height (slot slots at) = slot_counted height slots at lt in
      let all : map.len (view_of height slots).items ≡ passing p 0 (span height) = all_counted height slots in
      omega (arith, whole, first, second, here, all)

  -- Below one slot are at most as many entries as in the node.
  pub slot_few : (height : ℕ) (slots : List (Slot T)) (at : ℕ) → at < 64
      → entries_below height (slot slots at) ≤ map.len (view_of height slots).items
  slot_few height slots at lt = omega (arith, parts_counted height slots at lt)

  module _ (height : ℕ) (slots : List (Slot T)) (at : ℕ) (s : Slot T) (lt : at < 64) (wide : length slots ≡ 64) where
    elsewhere : (k : ℕ) → (k / width height ≡ at → ⊥) → taken height (set slots at s) k ≡ taken height slots k
    elsewhere k other = ap is_some (
        get-table (span height) (look height (set slots at s)) k
        ∙ ap (λ t. cond (ltb k (span height)) (below t (k % width height)) None)
        (get_or-set_other slots at (k / width height) s Vacant other)
        ∙ sym (get-table (span height) (look height slots) k))

    -- After a slot is written over, the node has its new entries in place of its old ones.
    pub recounted : map.len (view_of height (set slots at s)).items + entries_below height (slot slots at) ≡ map.len (view_of height slots).items + entries_below height s
    recounted =
        let w = width height in
        let here : entries_below height (slot (set slots at s) at) ≡ entries_below height s =
        ap (entries_below height) (get_or-set_same slots at s Vacant (omega arith)) in
        let before : passing (taken height (set slots at s)) 0 (at * w) ≡ passing (taken height slots) 0 (at * w) =
        passing-moved _ _ 0 0 (at * w) (λ r within. elsewhere (0 + r) (before_slot height at (0 + r) (omega arith)))
        in
        let after : passing (taken height (set slots at s)) (at * w + w) (span height - (at * w + w)) ≡ passing (taken height slots) (at * w + w) (span height - (at * w + w)) =
        passing-moved _ _ (at * w + w) (at * w + w) _
        (λ r within. elsewhere (at * w + w + r) (after_slot height at (at * w + w + r) (omega arith))) in
        omega
        (arith, here, before, after, parts_counted height slots at lt, parts_counted height (set slots at s) at lt)

-- The numbers that pass in `at + 1` slots are those in `at` slots and those in one more.
pub slots_passed : (p : ℕ → Bool) (w at : ℕ) → passing p 0 ((at + 1) * w) ≡ passing p 0 (at * w) + passing p (at * w) w
slots_passed p w at =
    let next : (at + 1) * w ≡ at * w + w = omega arith in
    let start : 0 + at * w ≡ at * w = omega arith in
    rw next (rw start at (passing-split p 0 (at * w) w))

-- No number passes in no slots.
pub none_passed : (p : ℕ → Bool) (w : ℕ) → passing p 0 (0 * w) ≡ 0
unfolding passing
none_passed p w = let start : 0 * w ≡ 0 = omega arith in rw start refl

-- The numbers that pass in all 64 slots are those that pass in the node's span.
pub all_passed : (p : ℕ → Bool) (height : ℕ) → passing p 0 (64 * width height) ≡ passing p 0 (span height)
all_passed p height = ap (passing p 0) (omega (arith, pow-add 2 (6 * height) 6))

-- the slot below which the number at a place lies
module _ {T : Type 0} {height : ℕ} {slots : List (Slot T)} {v : Tree T} (words : Words) (sound : IsSound height slots words) (view_is : view_of height slots ≡ v) (at : ℕ) (lt : at < 64) where
  -- The count of a slot that is read is the number of the node's entries at its indices.
  pub count_at : (s : Slot T) (n : ℕ) → s ≡ get_or slots at s → ((h : ℕ) → SlotFits h s → n ≡ entries_below h s)
      → n ≡ passing (λ k. map.contains_key v.items k) (at * width v.height) (width v.height)
  count_at s n read counts =
      let is : slot slots at ≡ s = sym (get_or_read slots at s (omega (arith, sound.wide)) read Vacant) in
      let fits : SlotFits height s = subst (SlotFits height) is (slot_fits height slots sound.all_fit at) in
      subst (λ (v : Tree T). n ≡ passing (λ k. map.contains_key v.items k) (at * width v.height) (width v.height))
      view_is
      (counts height fits ∙ ap (entries_below height) (sym is) ∙ sym (slot_counted height slots at lt))

  module _ (s t : Slot T) (read : s ≡ get_or slots at s) (s_is : s ≡ t) where
    slot_is : slot slots at ≡ t
    slot_is = sym (get_or_read slots at s (omega (arith, sound.wide)) read Vacant) ∙ s_is

    fits_is : SlotFits height t
    fits_is = subst (SlotFits height) slot_is (slot_fits height slots sound.all_fit at)

    -- A position within the entries at a slot's indices is within those below the slot.
    pub below_is : (left : ℕ) → left < passing (λ k. map.contains_key v.items k) (at * width v.height) (width v.height)
        → left < entries_below height t
    below_is left =
        subst
        (λ (v : Tree T). left < passing (λ k. map.contains_key v.items k) (at * width v.height) (width v.height) → left < entries_below height t)
        view_is
        (λ within. omega (arith, within, slot_counted height slots at lt, ap (entries_below height) slot_is))

    -- an index below it
    placed_at : (left position n : ℕ) → n < width height → is_some (below t n) ≡ true
        → passing (λ r. is_some (below t r)) 0 n ≡ left
        → passing (λ k. map.contains_key v.items k) 0 (at * width v.height) + left ≡ position
        → IsAtPosition (λ k. map.contains_key v.items k) (span v.height) position (at * width v.height + n)
    placed_at left position n low there count = subst (λ (v : Tree T). passing (λ k. map.contains_key v.items k) 0 (at * width v.height) + left ≡ position → IsAtPosition (λ k. map.contains_key v.items k) (span v.height) position (at * width v.height + n)) view_is (λ before. record {
      below = index_in_span height at n lt low;
      passes = ap is_some (value_in height slots at n lt low) ∙ ap (λ s. is_some (below s n)) slot_is ∙ there;
      before = passed before;
    })
      where
        passed : passing (taken height slots) 0 (at * width height) + left ≡ position
            → passing (taken height slots) 0 (at * width height + n) ≡ position
        passed before =
            let w = width height in
            let start : 0 + at * w ≡ at * w = omega arith in
            let split : passing (taken height slots) 0 (at * w + n) ≡ passing (taken height slots) 0 (at * w) + passing (taken height slots) (at * w) n =
            rw start at (passing-split (taken height slots) 0 (at * w) n) in
            let same : passing (taken height slots) (at * w) n ≡ passing (λ r. is_some (below t r)) 0 n =
            passing-moved _ _ (at * w) 0 n
            (λ r within. ap is_some (value_in height slots at r lt (omega arith)) ∙ ap (λ s. is_some (below s r)) slot_is ∙ ap (λ r. is_some (below t r)) (zero_more r))
            in
            omega (arith, split, same, count, before)

  starts : (base : ℕ) → base ≡ at * width height → base ≡ at * width v.height
  starts base is = is ∙ ap (λ (t : Tree T). at * width t.height) view_is

  module _ (s : Slot T) where
    -- The entry at a position that falls on a slot with a value is the value's.
    pub value_placed : (e : Entry T) → s ≡ get_or slots at s → s ≡ Value e → (left position base : ℕ)
        → base ≡ at * width height
        → left < passing (λ k. map.contains_key v.items k) (at * width v.height) (width v.height)
        → passing (λ k. map.contains_key v.items k) 0 (at * width v.height) + left ≡ position
        → IsAtPosition (λ k. map.contains_key v.items k) (span v.height) position base
    value_placed e read is left position base base_is within before =
        let low : height ≡ 0 = fits_is s (Value e) read is in
        let one : 1 ≡ entries_below height (Value e) = value_counted e height low in
        let none : 0 ≡ left = omega (arith, one, below_is s (Value e) read is left within) in
        let here : at * width v.height + 0 ≡ base = omega (arith, starts base base_is) in
        rw here at
        (placed_at s (Value e) read is left position 0 (pow_pos (6 * height)) refl (passing-none _ 0 0 (λ r lt. absurd (omega arith)) ∙ none) before)

    module _ (b : Box (Node T) Global) (read : s ≡ get_or slots at s) (is : s ≡ Child b) (left : ℕ) where
      wide : span b.value.height ≡ width height
      wide = child_span b.value.height height (fits_is s (Child b) read is)

      -- The entry at a position that falls on a subtree is the subtree's at the position left.
      pub child_placed : (position base n : ℕ) → base ≡ at * width height
          → IsAtPosition (λ k. map.contains_key b.value.items k) (span b.value.height) left n
          → passing (λ k. map.contains_key v.items k) 0 (at * width v.height) + left ≡ position
          → IsAtPosition (λ k. map.contains_key v.items k) (span v.height) position (base + n)
      child_placed position base n base_is found before =
          rw (starts base base_is)
          (placed_at s (Child b) read is left position n (omega (arith, found.below, wide)) found.passes found.before before)

      -- A subtree has an entry at each position that falls on its slot.
      pub child_missed : left < passing (λ k. map.contains_key v.items k) (at * width v.height) (width v.height)
          → passing (λ k. map.contains_key b.value.items k) 0 (span b.value.height) ≤ left → ⊥
      child_missed within missed =
          let count : passing (λ k. map.contains_key b.value.items k) 0 (span b.value.height) ≡ entries_below height (Child b) =
          ap (passing (λ k. map.contains_key b.value.items k) 0) wide in
          omega (arith, below_is s (Child b) read is left within, missed, count)

-- slots that are full, from the first on
module _ {T : Type 0} {height : ℕ} {slots : List (Slot T)} {v : Tree T} (words : Words) (sound : IsSound height slots words) (view_is : view_of height slots ≡ v) (n : ℕ) (few : n ≤ 64) (full : (i : ℕ) → i < n → tells_of words Free i ≡ false) where
  -- Each index below a full slot has an entry.
  full_there : (i : ℕ) → i < n → (r : ℕ) → r < width v.height → map.contains_key v.items (i * width v.height + r) ≡ true
  full_there i lt r within =
      let none =
      none_of (λ k. is_sought Free (map.get v.items k)) (i * width v.height + 0)
      (i * width v.height + (width v.height - 1))
      (sym (told height slots words v sound view_is Free i (omega arith)) ∙ full i lt) in
      sym (not-not _) ∙ ap not (none (i * width v.height + r) (omega arith) (omega (arith, within)))

  -- As many indices before a slot have an entry as there are, if each slot before it is full.
  pub full_passed : (at : ℕ) → at ≤ n
      → passing (λ k. map.contains_key v.items k) 0 (at * width v.height) ≡ at * width v.height
  full_passed zero le = none_passed (λ k. map.contains_key v.items k) (width v.height) ∙ zero_times
    where
      zero_times : 0 ≡ 0 * width v.height
      zero_times = omega arith
  full_passed (suc at) le =
      let p = λ (k : ℕ). map.contains_key v.items k in
      let here : passing p (at * width v.height) (width v.height) ≡ width v.height =
      passing-all p (at * width v.height) (width v.height) (full_there at (omega arith)) in
      let next : (at + 1) * width v.height ≡ at * width v.height + width v.height = omega arith in
      let more : suc at ≡ at + 1 = omega arith in
      rw more (slots_passed p (width v.height) at ∙ omega (arith, here, next, full_passed at (omega arith)))

  -- The position of an index is the index itself, if each slot before its slot is full.
  pub full_before : (q at rest : ℕ) → at ≤ n → at ≡ q / width height → rest ≡ q % width height
      → passing (λ k. map.contains_key v.items k) 0 (at * width v.height) + rest ≡ q
  full_before q at rest le at_is rest_is =
      let same : height ≡ v.height = ap (λ (t : Tree T). t.height) view_is in
      let parts : at * width v.height + rest ≡ q = rw (← same) (rw (at_is, rest_is) (div-add-mod' q (width height))) in
      omega (arith, full_passed at le, parts)

-- a node's count, once a slot is written over
module _ {T : Type 0} {height : ℕ} {slots : List (Slot T)} {at : ℕ} (words : Words) (count : ℕ) (node : IsNode height slots words count) (lt : at < 64) (was : Slot T) (was_is : slot slots at ≡ was) (n : ℕ) (n_is : (h : ℕ) → SlotFits h was → n ≡ entries_below h was) where
  old_count : n ≡ entries_below height (slot slots at)
  old_count =
      n_is height (subst (SlotFits height) was_is (slot_fits height slots node.sound.all_fit at))
      ∙ ap (entries_below height) (sym was_is)

  -- The entries below a slot are at most as many as the node counts.
  pub part_of_count : n ≤ count
  part_of_count = omega (arith, old_count, node.counted, slot_few height slots at lt)

  module _ (s : Slot T) (fits : SlotFits height s) (m : ℕ) (m_is : (h : ℕ) → SlotFits h s → m ≡ entries_below h s) where
    -- After a slot is replaced, the count without its old entries and with its new ones is right.
    pub new_count : count - n + m ≡ map.len (view_of height (set slots at s)).items
    new_count =
        omega
        (arith, old_count, part_of_count, m_is height fits, node.counted, recounted height slots at s lt node.sound.wide)

    -- After a slot is replaced, the new count is at most 2^36.
    pub new_count_fits : count - n + m ≤ 2 ^ 36
    new_count_fits = omega (arith, new_count, view_few height (set slots at s) _ refl node.sound.low)

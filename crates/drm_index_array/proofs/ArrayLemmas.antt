-- What a tree says of the array that it represents.
use Rattle.std.proofs.Common.{◌≡◌, ℕ, ◌-◌, ◌+◌, ◌<◌, ◌≤◌, Bool, true, false, not, cond, eqb, Option, Some, None, IsTrue, IsSome, is_some, option_map, option_copied, Bor, MutBor, refl, sym, ap, ◌∙◌, subst, inl, inr, arith}
use borrow.Follows.Closed.{read_of}
use Rattle.std.specs.Option.{option_map_or, option_copied_mut, ghost_name_of}
use Rattle.std.specs.Ordering.{nat_cmp}
use Rattle.std.specs.Cmp.{nat_cmp_total}
use Rattle.std.specs.FinMap as map
use Rattle.std.specs.FinSet as set
use Rattle.std.proofs.lemmas.Bool.{cases_lt, cases_eq, eq-eqb, ne_eqb, false≢true}
use Rattle.drm_index_array.specs.Least.{least, IsLeastFrom}
use Rattle.std.specs.List.{slice_get}
use Rattle.drm_index_array.specs.Position.{passing, IsPlaced}
use Rattle.drm_index_array.proofs.PlaceLemmas.{passing-moved, passing-none, len_counted, key_placed}
use Rattle.drm_index_array.specs.Indexed.{Indexed, marked_with, with_item, without_item, written_mark}
use Rattle.drm_index_array.specs.Marked.{Marked, MarkedMap, mark_of, with_mark, unmarked, get, write_mark, set_value, array_of}
use Rattle.drm_index_array.specs.Root.{IsRooted}
use Rattle.drm_index_array.specs.Slots.{option_marked}
use Rattle.drm_index_array.specs.declared.entry.Entry.{Entry}
use Rattle.drm_index_array.specs.declared.marks.Mark.{Mark}
use Rattle.drm_index_array.specs.declared.marks.Mark.TheVariants.{M0, M1, M2}
use Rattle.drm_index_array.proofs.Least.{least_some, least_none, least_is, least_is_none}
use Rattle.drm_index_array.proofs.MarkedLemmas.{get-insert, get-remove, get-rewrite, entry_written, len-write_mark, get-values, len-values, len-set_value, contains_key-values, marked_with-array_of, marked_is_key, array_of-insert, array_of-remove, array_of-set_value, array_of-write_mark}
use Rattle.drm_index_array.proofs.NextLemmas.{is_some-option_map}

module _ {T : Type 0} (items : MarkedMap T) (v : Indexed T) (view_is : array_of items ≡ v) where
  -- The array has the value of the tree's entry at each index.
  pub item_at : (k : ℕ) → option_map (λ s. s.value) (map.get items k) ≡ map.get v.items k
  item_at k = rw (← view_is) (sym (get-values items k))

  -- The tree and the array have entries at the same indices.
  pub key_at : (k : ℕ) → map.contains_key items k ≡ map.contains_key v.items k
  key_at k = rw (← view_is) (sym (contains_key-values items k))

  -- The array has a mark at an index if and only if the tree's entry there carries it.
  pub mark_at : (m : Mark) (k : ℕ)
      → option_map_or (λ s. mark_of s m) (map.get items k) false ≡ set.contains (marked_with v m) k
  mark_at m k = rw (← view_is) (sym (marked_with-array_of items m k))

  -- Each index with a mark has an entry.
  pub mark_is_key : (m : Mark) (k : ℕ) → IsTrue (set.contains (marked_with v m) k) → IsTrue (map.contains_key v.items k)
  mark_is_key m = rw (← view_is) (marked_is_key items m)

  -- the number at a place of the tree's indices
  placed_at : (end position : ℕ) (r : Option ℕ) → IsPlaced (λ k. map.contains_key items k) end position r
      → IsPlaced (λ k. map.contains_key v.items k) end position r
  placed_at end position None few =
      omega
      (arith, few, passing-moved (λ k. map.contains_key items k) (λ k. map.contains_key v.items k) 0 0 end (λ r lt. key_at (0 + r)))
  placed_at end position (Some n) is = record {
    below = is.below;
    passes = sym (key_at n) ∙ is.passes;
    before =
        sym
        (passing-moved (λ k. map.contains_key items k) (λ k. map.contains_key v.items k) 0 0 n (λ r lt. key_at (0 + r)))
        ∙ is.before;
  }

  module _ (m : MarkedMap T) (same : m ≡ items) (end : ℕ) (past : (k : ℕ) → end ≤ k → map.get m k ≡ None) (position : ℕ) where
    nothing_past : (k : ℕ) → end ≤ k → map.contains_key v.items k ≡ false
    nothing_past k le = sym (key_at k) ∙ ap (λ m. map.contains_key m k) (sym same) ∙ ap is_some (past k le)

    here : (r : Option ℕ) → IsPlaced (λ k. map.contains_key m k) end position r
        → IsPlaced (λ k. map.contains_key v.items k) end position r
    here r placed =
        placed_at end position r (subst (λ m. IsPlaced (λ k. map.contains_key m k) end position r) same placed)

    -- The index that a count of the tree finds at a position is the array's key at this position.
    pub nth_found : (r : Option ℕ) → IsPlaced (λ k. map.contains_key m k) end position r
        → r ≡ slice_get (map.keys v.items) position
    nth_found r placed = key_placed v.items end nothing_past position r (here r placed)

    -- An index found at a position has an entry.
    pub nth_there : (n : ℕ) → IsPlaced (λ k. map.contains_key m k) end position (Some n)
        → map.contains_key v.items n ≡ true
    nth_there n placed = (here (Some n) placed).passes

    -- If no index is found at a position, the array has no more entries than the position.
    pub nth_few : IsPlaced (λ k. map.contains_key m k) end position None → map.len v.items ≤ position
    nth_few placed = omega (arith, here None placed, len_counted v.items end nothing_past)

  -- what a look-up in the tree found
  module _ (k : ℕ) (o : Option (Marked T)) (m : MarkedMap T) (found : o ≡ map.get m k) (same : m ≡ items) where
    -- The value of a found entry is the array's value at its index.
    pub item_found : option_map (λ s. s.value) o ≡ map.get v.items k
    item_found = ap (λ o. option_map (λ s. s.value) o) (found ∙ ap (λ m. map.get m k) same) ∙ item_at k

    -- The marks of a found entry are the array's at its index.
    pub mark_found : (mark : Mark) → option_map_or (λ s. mark_of s mark) o false ≡ set.contains (marked_with v mark) k
    mark_found mark =
        ap (λ o. option_map_or (λ s. mark_of s mark) o false) (found ∙ ap (λ m. map.get m k) same) ∙ mark_at mark k

  -- An entry is found if and only if the array has one at the index.
  pub key_found : (k : ℕ) (r : Option (Bor (Entry T))) (m : MarkedMap T) → option_marked (option_copied r) ≡ map.get m k
      → m ≡ items → is_some r ≡ map.contains_key v.items k
  key_found k r m found same = sym (seen r) ∙ ap is_some found ∙ ap (λ m. map.contains_key m k) same ∙ key_at k
    where
      seen : (r : Option (Bor (Entry T))) → is_some (option_marked (option_copied r)) ≡ is_some r
      seen None = refl
      seen (Some e) = refl

  module _ (count : ℕ) (rooted : IsRooted items count) where
    -- Each index with an entry is a `u32`.
    pub item_bound : (k : ℕ) → IsTrue (map.contains_key v.items k) → k ≤ 4294967295
    item_bound k there = rooted.fit k (key_at k ∙ there)

    -- Each index with a mark is a `u32`.
    pub mark_bound : (m : Mark) (k : ℕ) → IsTrue (set.contains (marked_with v m) k) → k ≤ 4294967295
    mark_bound m k there = item_bound k (mark_is_key m k there)

    -- The counted number of entries is the array's length.
    pub item_count : count ≡ map.len v.items
    item_count = rooted.counted ∙ rw (← view_is) (sym (len-values items))

-- a search of a tree that covers n indices, by a test of the array
module _ (p q : ℕ → Bool) (same : (k : ℕ) → p k ≡ q k) (n from : ℕ) (past : (k : ℕ) → n ≤ k → p k ≡ false) where
  -- If a search within the span finds nothing, no index from `from` on passes the test.
  pub search_none : None ≡ least p from (n - 1) → (k : ℕ) → from ≤ k → q k ≡ false
  search_none none k ge =
      sym (same k) ∙ elim (cases_lt k n) as (λ _. p k ≡ false) [
        | inl lt ↦ least_none p from (n - 1) (sym none) k ge (omega arith)
        | inr le ↦ past k le
      ]

  module _ (bound : (k : ℕ) → q k ≡ true → k ≤ 4294967295) (r : ℕ) (found : Some r ≡ least p from (n - 1)) where
    -- The index that a search finds is a `u32`.
    pub search_low : r ≤ 4294967295
    search_low = bound r (sym (same r) ∙ (least_some p from (n - 1) r (sym found)).passes)

    -- The lowest index of the span that passes is the lowest of all `u32` that passes.
    pub search_some : Some r ≡ least q from 4294967295
    search_some =
        let is = least_some p from (n - 1) r (sym found) in
        sym
        (least_is q from 4294967295 r (record { at_least = is.at_least; at_most = search_low; passes = sym (same r) ∙ is.passes; none_below = λ k ge lt. sym (same k) ∙ is.none_below k ge lt }))

-- If no index from `from` on passes, a search to any end finds nothing.
pub nothing_least : (q : ℕ → Bool) (from to : ℕ) → ((k : ℕ) → from ≤ k → q k ≡ false) → None ≡ least q from to
nothing_least q from to none = sym (least_is_none q from to (λ k ge le. none k ge))

-- the lowest vacant index of all, by a test of the array
module _ (p q : ℕ → Bool) (same : (k : ℕ) → p k ≡ q k) (from n : ℕ) (is : IsLeastFrom p from n) where
  -- The lowest free index, if it is a `u32`, is what a search for a free index finds.
  pub vacant_here : n ≤ 4294967295 → Some n ≡ least q from 4294967295
  vacant_here le =
      sym
      (least_is q from 4294967295 n (record { at_least = is.at_least; at_most = le; passes = sym (same n) ∙ is.passes; none_below = λ k ge lt. sym (same k) ∙ is.none_below k ge lt }))

  -- If the lowest free index is past `u32`, a search for a free index finds none.
  pub vacant_nowhere : 4294967295 < n → None ≡ least q from 4294967295
  vacant_nowhere lt = sym (least_is_none q from 4294967295 (λ k ge le. sym (same k) ∙ is.none_below k ge (omega arith)))

-- an array with no tree
module _ {T : Type 0} (items : MarkedMap T) (v : Indexed T) (view_is : array_of items ≡ v) (empty : items ≡ map.empty) where
  -- An empty array has no value at any index.
  pub no_item : (k : ℕ) → map.get v.items k ≡ None
  no_item k =
      sym (item_at items v view_is k) ∙ ap (λ m. option_map (λ s. s.value) (map.get m k)) empty
      ∙ ap (option_map (λ s. s.value)) (map.get-empty nat_cmp k)

  -- An empty array has no keys.
  pub no_key : (k : ℕ) → map.contains_key v.items k ≡ false
  no_key k = ap is_some (no_item k)

  -- An empty array has no key at any position.
  pub no_nth : (position : ℕ) → None ≡ slice_get (map.keys v.items) position
  no_nth position = key_placed v.items 0 (λ k le. no_key k) position None (omega (arith, none_in))
    where
      none_in : passing (λ k. map.contains_key v.items k) 0 0 ≡ 0
      none_in = passing-none _ 0 0 (λ r lt. no_key (0 + r))

  -- An empty array has the length 0.
  pub no_len : map.len v.items ≡ 0
  no_len = len_counted v.items 0 (λ k le. no_key k) ∙ passing-none _ 0 0 (λ r lt. no_key (0 + r))

  -- An empty array has no marks.
  pub no_mark : (m : Mark) (k : ℕ) → set.contains (marked_with v m) k ≡ false
  no_mark m k =
      sym (mark_at items v view_is m k) ∙ ap (λ a. option_map_or (λ s. mark_of s m) (map.get a k) false) empty
      ∙ ap (λ o. option_map_or (λ s. mark_of s m) o false) (map.get-empty nat_cmp k)

  -- In an empty array the lowest free index from `from` on is `from`.
  pub all_vacant : (from : ℕ) → from ≤ 4294967295
      → Some from ≡ least (λ k. not (map.contains_key v.items k)) from 4294967295
  all_vacant from le =
      sym
      (least_is _ from 4294967295 from (record { at_least = omega arith; at_most = le; passes = ap not (no_key from); none_below = λ k ge lt. absurd (omega arith) }))

-- No entries are counted as 0.
pub rooted_none : (T : Type 0) → IsRooted (map.empty {X = Marked T} {R = nat_cmp}) 0
rooted_none T =
    record
    { counted = sym (map.len-empty nat_cmp (Marked T)); fit = λ k there. absurd (false≢true (sym (ap is_some (map.get-empty nat_cmp k)) ∙ there)) }

-- an entry more
module _ {T : Type 0} (items : MarkedMap T) (v : Indexed T) (view_is : array_of items ≡ v) (i : ℕ) (value : T) (now : MarkedMap T) (is : now ≡ map.insert items i (unmarked value)) (absent : map.get items i ≡ None) where
  -- After an insertion at a free index, the count is higher by one.
  pub rooted_more : (count : ℕ) → IsRooted items count → i ≤ 4294967295 → IsRooted now (count + 1)
  rooted_more count rooted le = record {
    counted =
        ap (λ n. n + 1) rooted.counted
        ∙ sym
        (ap map.len is ∙ map.len-insert nat_cmp_total items i (unmarked value) ∙ ap (λ o. cond (is_some o) (map.len items) (map.len items + 1)) absent);
    fit = λ k there. elim (cases_eq k i) [
      | inl same ↦ omega arith
      | inr apart ↦ rooted.fit k (kept k apart (sym (ap (λ m. map.contains_key m k) is) ∙ there))
    ];
  }
    where
      kept : (k : ℕ) → (k ≡ i → ⊥) → IsTrue (map.contains_key (map.insert items i (unmarked value)) k)
          → IsTrue (map.contains_key items k)
      kept k apart there =
          sym
          (ap is_some (get-insert items i (unmarked value) k ∙ ap (λ b. cond b (Some (unmarked value)) (map.get items k)) (ne_eqb k i apart)))
          ∙ there

  -- After an insertion in the tree, the array has the value at the index.
  pub array_more : array_of now ≡ with_item v i value
  array_more = ap array_of is ∙ array_of-insert items i value absent ∙ ap (λ a. with_item a i value) view_is

  -- A new entry carries no mark.
  pub mark_of_new : (m : Mark) → set.contains (marked_with (array_of now) m) i ≡ false
  mark_of_new m =
      ap (λ a. set.contains (marked_with (array_of a) m) i) is
      ∙ sym (mark_at _ _ refl m i)
      ∙ ap (λ o. option_map_or (λ s. mark_of s m) o false)
      (get-insert items i (unmarked value) i ∙ ap (λ b. cond b (Some (unmarked value)) (map.get items i)) (eq-eqb i i refl))
      ∙ unmarked_by m
    where
      unmarked_by : (m : Mark) → mark_of (unmarked value) m ≡ false
      unmarked_by M0 = refl
      unmarked_by M1 = refl
      unmarked_by M2 = refl

  -- The array has no value at the free index before the insertion.
  pub item_absent : map.get v.items i ≡ None
  item_absent = sym (item_at items v view_is i) ∙ ap (λ o. option_map (λ s. s.value) o) absent

-- an entry less
module _ {T : Type 0} (items : MarkedMap T) (v : Indexed T) (view_is : array_of items ≡ v) (i : ℕ) (now : MarkedMap T) (is : now ≡ map.remove items i) where
  -- After a removal in the tree, the array has no entry at the index.
  pub array_less : array_of now ≡ without_item v i
  array_less = ap array_of is ∙ array_of-remove items i ∙ ap (λ a. without_item a i) view_is

  fit_less : (count : ℕ) → IsRooted items count → (k : ℕ) → IsTrue (map.contains_key now k) → k ≤ 4294967295
  fit_less count rooted k there = rooted.fit k (was k (sym (ap (λ m. map.contains_key m k) is) ∙ there))
    where
      was : (k : ℕ) → IsTrue (map.contains_key (map.remove items i) k) → IsTrue (map.contains_key items k)
      was k there =
          elim (cases_eq k i) as (λ _. IsTrue (map.contains_key items k)) [
            | inl same ↦ absurd (false≢true (sym (ap is_some (get-remove items i k ∙ ap (λ b. cond b None (map.get items k)) (eq-eqb k i same))) ∙ there))
            | inr apart ↦ sym (ap is_some (get-remove items i k ∙ ap (λ b. cond b None (map.get items k)) (ne_eqb k i apart))) ∙ there
          ]

  -- the entry was there
  module _ (x : T) (found : Some x ≡ get items i) (count : ℕ) (rooted : IsRooted items count) where
    there : map.contains_key items i ≡ true
    there = known (map.get items i) found
      where
        known : (o : Option (Marked T)) → Some x ≡ option_map (λ s. s.value) o → is_some o ≡ true
        known None e = absurd (false≢true (ap is_some (sym e)))
        known (Some s) e = refl

    len_less : map.len now ≡ map.len items - 1
    len_less =
        ap map.len is ∙ map.len-remove nat_cmp_total items i
        ∙ ap (λ b. cond b (map.len items - 1) (map.len items)) there

    -- If an entry is found, the count is at least 1.
    pub some_counted : 1 ≤ count
    some_counted =
        elim (cases_lt 0 count) [
          | inl lt ↦ omega arith
          | inr none ↦ absurd (false≢true (sym (ap is_some (ap (λ m. map.get m i) (map.empty_of_len items (sym rooted.counted ∙ zero_of count none)) ∙ map.get-empty nat_cmp i)) ∙ there))
        ]
      where
        zero_of : (n : ℕ) → n ≤ 0 → n ≡ 0
        zero_of n le = omega arith

    -- After the removal of an entry, the count is lower by one.
    pub rooted_less : IsRooted now (count - 1)
    rooted_less = record { counted = ap (λ n. n - 1) rooted.counted ∙ sym len_less; fit = fit_less count rooted }

  -- If a removal changes nothing, the count stays right.
  pub rooted_same : (count : ℕ) → IsRooted items count → map.remove items i ≡ items → IsRooted now count
  rooted_same count rooted same = subst (λ m. IsRooted m count) (sym (is ∙ same)) rooted

  -- A removal that changes nothing leaves the array unchanged.
  pub array_same : map.remove items i ≡ items → array_of now ≡ v
  array_same same = ap array_of (is ∙ same) ∙ view_is

-- a mark written
module _ {T : Type 0} (items : MarkedMap T) (v : Indexed T) (view_is : array_of items ≡ v) (i : ℕ) (m : Mark) (b : Bool) (now : MarkedMap T) (is_written : now ≡ write_mark items i m b) where
  -- Setting or clearing a mark of an entry in the tree does the same in the array.
  pub array_written : IsSome (get items i) → array_of now ≡ written_mark v i m b
  array_written there =
      ap array_of is_written ∙ array_of-write_mark items i m b there ∙ ap (λ a. written_mark a i m b) view_is

  keys_kept : (k : ℕ) → map.contains_key now k ≡ map.contains_key items k
  keys_kept k = ap (λ a. map.contains_key a k) is_written ∙ ap is_some (entry_written items i m b k) ∙ elim (cases_eq k i) as (λ _. is_some (cond (eqb k i) (option_map (λ s. with_mark s m b) (map.get items i)) (map.get items k)) ≡ map.contains_key items k) [
    | inl same ↦ rw (eq-eqb k i same) (is_some-option_map _ _ ∙ ap (map.contains_key items) (sym same))
    | inr apart ↦ rw (ne_eqb k i apart) refl
  ]

  -- Setting or clearing a mark keeps the count.
  pub rooted_written : (count : ℕ) → IsRooted items count → IsRooted now count
  rooted_written count rooted =
      record { counted = rooted.counted ∙ sym len_kept; fit = λ k there. rooted.fit k (sym (keys_kept k) ∙ there) }
    where
      len_kept : map.len now ≡ map.len items
      len_kept = ap map.len is_written ∙ len-write_mark items i m b

-- a value lent
module _ {T : Type 0} (items : MarkedMap T) (v : Indexed T) (view_is : array_of items ≡ v) (i : ℕ) where
  -- After a write through a lent value, the array has the last value at its index.
  pub array_lent : IsSome (get items i) → (w : T) → array_of (set_value items i w) ≡ with_item v i w
  array_lent there w = array_of-set_value items i w there ∙ ap (λ a. with_item a i w) view_is

  keys-set_value : (w : T) (k : ℕ) → map.contains_key (set_value items i w) k ≡ map.contains_key items k
  keys-set_value w k =
      ap is_some (get-rewrite items i (λ s. record s { value = w }) k) ∙ either (eqb k i) (map.get items k)
    where
      either : (b : Bool) (o : Option (Marked T))
          → is_some (cond b (option_map {T = Marked T} {U = Marked T} (λ s. record s { value = w }) o) o) ≡ is_some o
      either true o = is_some-option_map _ o
      either false o = refl

  -- A write through a lent value keeps the count.
  pub rooted_lent : (count : ℕ) → IsRooted items count → (w : T) → IsRooted (set_value items i w) count
  rooted_lent count rooted w =
      record
      { counted = rooted.counted ∙ sym (len-set_value items i w); fit = λ k there. rooted.fit k (sym (keys-set_value w k) ∙ there) }

  -- Two readings of a lent value that agree if there is one, and without a borrow, are equal.
  pub lent_there : {D : Type 0} (r : Option (MutBor T)) → option_copied_mut r ≡ get items i → (f h : T → D) (a b : D)
      → (IsSome (get items i) → (x : T) → f x ≡ h x) → a ≡ b
      → read_of (ghost_name_of r) f a ≡ read_of (ghost_name_of r) h b
  lent_there None found f h a b fs same = ap inr same
  lent_there (Some m) found f h a b fs same = λ j. inl (m.ghost_name, λ x. fs (ap is_some (sym found)) x j)

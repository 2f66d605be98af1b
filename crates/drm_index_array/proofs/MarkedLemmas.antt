-- What a map of marked values holds after each call, for the crates above.
use Rattle.std.proofs.Common.{◌≡◌, ℕ, suc, ◌+◌, length, Bool, true, false, not, eqb, cond, ◌&&◌, ◌||◌, T, List, [], ◌∷◌, map as list_map, Option, Some, None, option_map, is_some, IsTrue, IsSome, refl, sym, ap, ◌∙◌, subst, inl, inr, arith}
use Rattle.std.specs.Option.{option_map_or}
use Rattle.std.specs.Ordering.{nat_cmp, eq_by_cmp, is_lt}
use Rattle.std.specs.Cmp.{nat_cmp_total}
use Rattle.std.specs.FinMap as map
use Rattle.std.specs.FinSet as set
use Rattle.std.specs.FinMap.{nat_cmp-IsAntisymmetric}
use Rattle.std.specs.FinMap.Entries.{find, is_sorted, below_all}
use Rattle.std.proofs.lemmas.Bool.{ne_eqb, cases_eq, false≢true}
use Rattle.std.proofs.lemmas.Bool.Decides.{nat_tests}
use Rattle.drm_index_array.specs.declared.marks.Mark.{Mark}
use Rattle.drm_index_array.specs.declared.marks.Mark.TheVariants.{M0, M1, M2}
use Rattle.drm_index_array.specs.Marked.{Marked, MarkedMap, get, is_marked, unmarked, mark_of, with_mark, rewrite, rewritten, write_mark, set_value, values, marked_in, array_of}
use Rattle.drm_index_array.specs.Indexed as ix
use Rattle.drm_index_array.specs.Indexed.{Indexed, empty_array, with_item, without_item}

-- The test of equality of a map's keys is that of numbers.
pub eq_by_cmp-nat_cmp : (q k : ℕ) → eq_by_cmp nat_cmp q k ≡ eqb q k
eq_by_cmp-nat_cmp q k = grind (arith, nat_tests)

-- After an insertion, the key has the new value and all other keys are unchanged.
pub get-insert : {X : Type 0} (m : map.FinMap nat_cmp X) (k : ℕ) (v : X) (q : ℕ)
    → map.get (map.insert m k v) q ≡ cond (eqb q k) (Some v) (map.get m q)
get-insert m k v q =
    map.get-insert nat_cmp_total m k v q ∙ ap (λ b. cond b (Some v) (map.get m q)) (eq_by_cmp-nat_cmp q k)

-- After a removal, the key has no entry and all other keys are unchanged.
pub get-remove : {X : Type 0} (m : map.FinMap nat_cmp X) (k q : ℕ)
    → map.get (map.remove m k) q ≡ cond (eqb q k) None (map.get m q)
get-remove m k q = map.get-remove nat_cmp_total m k q ∙ ap (λ b. cond b None (map.get m q)) (eq_by_cmp-nat_cmp q k)

-- Two maps with the same value at each key are equal.
pub same_by_gets : {X : Type 0} (m n : map.FinMap nat_cmp X) → ((q : ℕ) → map.get m q ≡ map.get n q) → m ≡ n
same_by_gets m n same = map.same_map nat_cmp_total nat_cmp-IsAntisymmetric m n same

-- A condition does not matter if both branches are the same.
pub same_branch : {Y : Type 0} (b : Bool) (x : Y) → cond b x x ≡ x
same_branch true x = refl
same_branch false x = refl

-- Inserting the value that a key already has changes nothing.
pub insert_same : {X : Type 0} (m : map.FinMap nat_cmp X) (k : ℕ) (v : X) → map.get m k ≡ Some v → map.insert m k v ≡ m
insert_same m k v here =
    same_by_gets _ _ (λ q. get-insert m k v q ∙ ap (λ o. cond (eqb q k) o (map.get m q)) (sym here) ∙ kept q)
  where
    kept : (q : ℕ) → cond (eqb q k) (map.get m k) (map.get m q) ≡ map.get m q
    kept q =
        elim (cases_eq q k) [
          | inl same ↦ rw same (same_branch (eqb k k) (map.get m k))
          | inr apart ↦ grind (arith, nat_tests)
        ]

module _ {X Y : Type 0} (f : X → Y) where
  pairs_by : List (ℕ × X) → List (ℕ × Y)
  pairs_by es = list_map (λ e. (e.0, f e.1)) es

  below_all-pairs_by : (x : ℕ) (es : List (ℕ × X)) → below_all nat_cmp x (pairs_by es) ≡ below_all nat_cmp x es
  unfolding pairs_by
  below_all-pairs_by x [] = refl
  below_all-pairs_by x (e ∷ es) = ap (λ b. is_lt (nat_cmp x e.0) && b) (below_all-pairs_by x es)

  is_sorted-pairs_by : (es : List (ℕ × X)) → is_sorted nat_cmp (pairs_by es) ≡ is_sorted nat_cmp es
  unfolding pairs_by
  is_sorted-pairs_by [] = refl
  is_sorted-pairs_by (e ∷ es) = λ i. below_all-pairs_by e.0 es i && is_sorted-pairs_by es i

  find-pairs_by : (q : ℕ) (es : List (ℕ × X)) → find nat_cmp q (pairs_by es) ≡ option_map f (find nat_cmp q es)
  unfolding pairs_by
  find-pairs_by q [] = refl
  find-pairs_by q (e ∷ es) =
      elim (eq_by_cmp nat_cmp q e.0) as (λ b. cond b (Some (f e.1)) (find nat_cmp q (pairs_by es)) ≡ option_map f (cond b (Some e.1) (find nat_cmp q es))) [ true ↦ refl | false ↦ find-pairs_by q es ]

option_map-cond : {Y Z : Type 0} (f : Y → Z) (b : Bool) (x y : Option Y)
    → option_map f (cond b x y) ≡ cond b (option_map f x) (option_map f y)
option_map-cond f true x y = refl
option_map-cond f false x y = refl

option_map_or-cond : {Y Z : Type 0} (f : Y → Z) (d : Z) (b : Bool) (x y : Option Y)
    → option_map_or f (cond b x y) d ≡ cond b (option_map_or f x d) (option_map_or f y d)
option_map_or-cond f d true x y = refl
option_map_or-cond f d false x y = refl

without_false : (b c : Bool) → cond b false c ≡ (not b && c)
without_false true c = refl
without_false false c = refl

-- the branch for equal numbers is used only at equal numbers
cond_at : {Y : Type 0} (q i : ℕ) (x y z : Y) → (q ≡ i → x ≡ y) → cond (eqb q i) x z ≡ cond (eqb q i) y z
cond_at q i x y z same =
    elim (cases_eq q i) [
      | inl here ↦ ap (λ w. cond (eqb q i) w z) (same here)
      | inr apart ↦ grind (arith, nat_tests)
    ]

module _ {X : Type 0} where
  -- The map of values has at each index the value of the entry there.
  pub get-values : (a : MarkedMap X) (q : ℕ) → map.get (values a) q ≡ get a q
  unfolding values pairs_by
  get-values a q =
      map.get-from_sorted nat_cmp _ q
      (subst T (sym (is_sorted-pairs_by (λ s. s.value) (map.entries a))) (map.entries_sorted a))
      ∙ find-pairs_by (λ s. s.value) q (map.entries a)
      ∙ ap (option_map (λ s. s.value)) (sym (map.get-entries a q))

  -- A rewrite changes the entry at its index, if there is one, and no other.
  pub get-rewrite : (a : MarkedMap X) (i : ℕ) (f : Marked X → Marked X) (q : ℕ)
      → map.get (rewrite a i f) q ≡ cond (eqb q i) (option_map f (map.get a q)) (map.get a q)
  unfolding rewrite
  get-rewrite a i f q =
      elim (map.get a i) as (λ o. map.get a i ≡ o → map.get (rewritten a i f o) q ≡ cond (eqb q i) (option_map f (map.get a q)) (map.get a q)) [
        | None ↦ λ none. sym (same_branch (eqb q i) _) ∙ cond_at q i _ _ _ (λ e. rw (e, none) refl)
        | Some s ↦ λ some. get-insert a i (f s) q ∙ cond_at q i _ _ _ (λ e. rw (e, some) refl)
      ] refl

  -- After an insertion, the index has the new value and all other values are unchanged.
  pub get-insert_unmarked : (a : MarkedMap X) (i : ℕ) (v : X) (q : ℕ)
      → get (map.insert a i (unmarked v)) q ≡ cond (eqb q i) (Some v) (get a q)
  get-insert_unmarked a i v q =
      ap (option_map (λ s. s.value)) (get-insert a i (unmarked v) q) ∙ option_map-cond (λ s. s.value) (eqb q i) _ _

  -- After a removal, the index has no value and all others are unchanged.
  pub get-remove_value : (a : MarkedMap X) (i q : ℕ) → get (map.remove a i) q ≡ cond (eqb q i) None (get a q)
  get-remove_value a i q =
      ap (option_map (λ s. s.value)) (get-remove a i q) ∙ option_map-cond (λ s. s.value) (eqb q i) _ _

  -- Setting a value changes the value at its index if there is one, and no other.
  pub get-set_value : (a : MarkedMap X) (i : ℕ) (v : X) (q : ℕ)
      → get (set_value a i v) q ≡ cond (eqb q i) (option_map (λ _. v) (get a q)) (get a q)
  get-set_value a i v q =
      ap (option_map (λ s. s.value)) (get-rewrite a i (λ s. record s { value = v }) q)
      ∙ option_map-cond (λ s. s.value) (eqb q i) _ _
      ∙ ap (λ x. cond (eqb q i) x (get a q)) (twice (map.get a q))
    where
      twice : (o : Option (Marked X))
          → option_map (λ s. s.value) (option_map {T = Marked X} (λ s. record s { value = v }) o) ≡ option_map (λ _. v) (option_map (λ s. s.value) o)
      twice None = refl
      twice (Some s) = refl

  -- Writing a mark changes no value.
  pub get-write_mark : (a : MarkedMap X) (i : ℕ) (m : Mark) (b : Bool) (q : ℕ) → get (write_mark a i m b) q ≡ get a q
  get-write_mark a i m b q =
      ap (option_map (λ s. s.value)) (get-rewrite a i (λ s. with_mark s m b) q)
      ∙ option_map-cond (λ s. s.value) (eqb q i) _ _
      ∙ ap (λ x. cond (eqb q i) x (get a q)) (kept m (map.get a q))
      ∙ same_branch (eqb q i) _
    where
      kept : (m : Mark) (o : Option (Marked X))
          → option_map (λ s. s.value) (option_map (λ s. with_mark s m b) o) ≡ option_map (λ s. s.value) o
      kept m None = refl
      kept M0 (Some s) = refl
      kept M1 (Some s) = refl
      kept M2 (Some s) = refl

  -- After an insertion, the index carries no mark and all other marks are unchanged.
  pub is_marked-insert : (a : MarkedMap X) (i : ℕ) (v : X) (q : ℕ) (m : Mark)
      → is_marked (map.insert a i (unmarked v)) q m ≡ cond (eqb q i) false (is_marked a q m)
  is_marked-insert a i v q m =
      ap (λ o. option_map_or (λ s. mark_of s m) o false) (get-insert a i (unmarked v) q)
      ∙ option_map_or-cond (λ s. mark_of s m) false (eqb q i) _ _
      ∙ ap (λ b. cond (eqb q i) b (is_marked a q m)) (none m)
    where
      none : (m : Mark) → mark_of (unmarked v) m ≡ false
      none M0 = refl
      none M1 = refl
      none M2 = refl

  -- After a removal, the index carries no mark and all others are unchanged.
  pub is_marked-remove : (a : MarkedMap X) (i q : ℕ) (m : Mark)
      → is_marked (map.remove a i) q m ≡ cond (eqb q i) false (is_marked a q m)
  is_marked-remove a i q m =
      ap (λ o. option_map_or (λ s. mark_of s m) o false) (get-remove a i q)
      ∙ option_map_or-cond (λ s. mark_of s m) false (eqb q i) _ _

  -- An empty map has no values.
  pub values-empty : values (map.empty {X = Marked X}) ≡ map.empty
  values-empty =
      same_by_gets _ _
      (λ q. get-values map.empty q ∙ ap (option_map (λ s. s.value)) (map.get-empty nat_cmp q) ∙ sym (map.get-empty nat_cmp q))

  -- Inserting an unmarked value inserts it in the map of values.
  pub values-insert : (a : MarkedMap X) (i : ℕ) (v : X)
      → values (map.insert a i (unmarked v)) ≡ map.insert (values a) i v
  values-insert a i v =
      same_by_gets _ _
      (λ q. get-values _ q ∙ get-insert_unmarked a i v q ∙ ap (cond (eqb q i) (Some v)) (sym (get-values a q)) ∙ sym (get-insert (values a) i v q))

  -- Removing an entry removes it from the map of values.
  pub values-remove : (a : MarkedMap X) (i : ℕ) → values (map.remove a i) ≡ map.remove (values a) i
  values-remove a i =
      same_by_gets _ _
      (λ q. get-values _ q ∙ get-remove_value a i q ∙ ap (cond (eqb q i) None) (sym (get-values a q)) ∙ sym (get-remove (values a) i q))

  -- Setting the value of an entry inserts it in the map of values.
  pub values-set_value : (a : MarkedMap X) (i : ℕ) (v : X) → IsSome (get a i)
      → values (set_value a i v) ≡ map.insert (values a) i v
  values-set_value a i v there =
      same_by_gets _ _ (λ q.
      get-values _ q
      ∙ get-set_value a i v q
      ∙ cond_at q i _ (Some v) _ (λ e. rw e (written (get a i) there))
      ∙ ap (cond (eqb q i) (Some v)) (sym (get-values a q))
      ∙ sym (get-insert (values a) i v q))
    where
      written : (o : Option X) → IsSome o → option_map (λ _. v) o ≡ Some v
      written None there = absurd (false≢true there)
      written (Some w) there = refl

  -- Writing a mark leaves the map of values unchanged.
  pub values-write_mark : (a : MarkedMap X) (i : ℕ) (m : Mark) (b : Bool) → values (write_mark a i m b) ≡ values a
  values-write_mark a i m b = same_by_gets _ _ (λ q. get-values _ q ∙ get-write_mark a i m b q ∙ sym (get-values a q))

  -- The map of values has the same keys.
  pub contains_key-values : (a : MarkedMap X) (q : ℕ) → map.contains_key (values a) q ≡ map.contains_key a q
  contains_key-values a q = ap is_some (get-values a q) ∙ there (map.get a q)
    where
      there : (o : Option (Marked X)) → is_some (option_map (λ s. s.value) o) ≡ is_some o
      there None = refl
      there (Some s) = refl

module _ {X : Type 0} where
  -- the marks after a rewrite that keeps this mark, or writes it
  is_marked-rewrite : (a : MarkedMap X) (i : ℕ) (f : Marked X → Marked X) (q : ℕ) (m : Mark)
      → is_marked (rewrite a i f) q m ≡ cond (eqb q i) (option_map_or (λ s. mark_of (f s) m) (map.get a q) false) (is_marked a q m)
  is_marked-rewrite a i f q m =
      ap (λ o. option_map_or (λ s. mark_of s m) o false) (get-rewrite a i f q)
      ∙ option_map_or-cond (λ s. mark_of s m) false (eqb q i) _ _
      ∙ ap (λ b. cond (eqb q i) b (is_marked a q m)) (inner (map.get a q))
    where
      inner : (o : Option (Marked X))
          → option_map_or (λ s. mark_of s m) (option_map f o) false ≡ option_map_or (λ s. mark_of (f s) m) o false
      inner None = refl
      inner (Some s) = refl

  -- The set of indices with a mark has exactly those whose entries carry it.
  pub contains-marked_in : (a : MarkedMap X) (m : Mark) (q : ℕ) → set.contains (marked_in a m) q ≡ is_marked a q m
  unfolding marked_in
  contains-marked_in a m q =
      set.contains-retain (set.from_list (map.keys a)) (λ i. is_marked a i m) q
      (λ x t. ap (λ i. is_marked a i m) (sym (nat_cmp-IsAntisymmetric q x t)))
      ∙ ap (λ b. b && is_marked a q m)
      (set.contains-from_list nat_cmp_total (map.keys a) q ∙ sym (map.contains_key-keys a q))
      ∙ inside (map.get a q)
    where
      inside : (o : Option (Marked X))
          → (is_some o && option_map_or (λ s. mark_of s m) o false) ≡ option_map_or (λ s. mark_of s m) o false
      inside None = refl
      inside (Some s) = refl

  same_marks : (a : MarkedMap X) (m : Mark) (s : set.FinSet nat_cmp) → ((q : ℕ) → is_marked a q m ≡ set.contains s q)
      → marked_in a m ≡ s
  same_marks a m s same =
      set.same_set nat_cmp_total nat_cmp-IsAntisymmetric _ _ (λ q. contains-marked_in a m q ∙ same q)

  absent_unmarked : (a : MarkedMap X) (i : ℕ) (m : Mark) → map.get a i ≡ None → is_marked a i m ≡ false
  absent_unmarked a i m none = ap (λ o. option_map_or (λ s. mark_of s m) o false) none

  by_parts : (x y : Indexed X) → x.items ≡ y.items → x.m0 ≡ y.m0 → x.m1 ≡ y.m1 → x.m2 ≡ y.m2 → x ≡ y
  by_parts x y p a b c = λ i. record { items = p i; m0 = a i; m1 = b i; m2 = c i }

  -- The array of an empty map is empty.
  pub array_of-empty : array_of (map.empty {X = Marked X}) ≡ empty_array
  array_of-empty = by_parts _ _ values-empty (none M0) (none M1) (none M2)
    where
      none : (m : Mark) → marked_in (map.empty {X = Marked X}) m ≡ set.empty
      none m =
          same_marks map.empty m set.empty
          (λ q. absent_unmarked map.empty q m (map.get-empty nat_cmp q) ∙ sym (set.contains-empty nat_cmp q))

  -- Inserting an unmarked value at a free index adds the item to the array.
  pub array_of-insert : (a : MarkedMap X) (i : ℕ) (v : X) → map.get a i ≡ None
      → array_of (map.insert a i (unmarked v)) ≡ with_item (array_of a) i v
  array_of-insert a i v none = by_parts _ _ (values-insert a i v) (kept M0) (kept M1) (kept M2)
    where
      kept : (m : Mark) → marked_in (map.insert a i (unmarked v)) m ≡ marked_in a m
      kept m =
          same_marks _ m (marked_in a m) (λ q.
          is_marked-insert a i v q m
          ∙ cond_at q i _ _ _ (λ e. sym (rw e (absent_unmarked a i m none)))
          ∙ same_branch (eqb q i) _
          ∙ sym (contains-marked_in a m q))

  -- Removing an entry removes its item and its marks from the array.
  pub array_of-remove : (a : MarkedMap X) (i : ℕ) → array_of (map.remove a i) ≡ without_item (array_of a) i
  array_of-remove a i = by_parts _ _ (values-remove a i) (less M0) (less M1) (less M2)
    where
      less : (m : Mark) → marked_in (map.remove a i) m ≡ set.remove (marked_in a m) i
      less m =
          same_marks _ m _ (λ q.
          is_marked-remove a i q m
          ∙ without_false (eqb q i) _
          ∙ (λ j. not (sym (eq_by_cmp-nat_cmp q i) j) && sym (contains-marked_in a m q) j)
          ∙ sym (set.contains-remove nat_cmp_total (marked_in a m) i q))

  -- Setting the value of an entry sets the array's item.
  pub array_of-set_value : (a : MarkedMap X) (i : ℕ) (v : X) → IsSome (get a i)
      → array_of (set_value a i v) ≡ with_item (array_of a) i v
  array_of-set_value a i v there = by_parts _ _ (values-set_value a i v there) (kept M0) (kept M1) (kept M2)
    where
      mark_kept : (m : Mark) (s : Marked X) → mark_of (let t : Marked X = record s { value = v } in t) m ≡ mark_of s m
      mark_kept M0 s = refl
      mark_kept M1 s = refl
      mark_kept M2 s = refl

      inner : (m : Mark) (o : Option (Marked X))
          → option_map_or (λ s. mark_of (let t : Marked X = record s { value = v } in t) m) o false ≡ option_map_or (λ s. mark_of s m) o false
      inner m None = refl
      inner m (Some s) = mark_kept m s

      kept : (m : Mark) → marked_in (set_value a i v) m ≡ marked_in a m
      kept m =
          same_marks _ m (marked_in a m) (λ q.
          is_marked-rewrite a i (λ s. record s { value = v }) q m
          ∙ ap (λ b. cond (eqb q i) b (is_marked a q m)) (inner m (map.get a q))
          ∙ same_branch (eqb q i) _
          ∙ sym (contains-marked_in a m q))

  -- a mark that a rewrite keeps
  kept_mark : (a : MarkedMap X) (i : ℕ) (f : Marked X → Marked X) (n : Mark)
      → ((s : Marked X) → mark_of (f s) n ≡ mark_of s n) → marked_in (rewrite a i f) n ≡ marked_in a n
  kept_mark a i f n keeps =
      same_marks _ n (marked_in a n) (λ q.
      is_marked-rewrite a i f q n ∙ ap (λ b. cond (eqb q i) b (is_marked a q n)) (inner (map.get a q)) ∙ same_branch (eqb q i) _ ∙ sym (contains-marked_in a n q))
    where
      inner : (o : Option (Marked X))
          → option_map_or (λ s. mark_of (f s) n) o false ≡ option_map_or (λ s. mark_of s n) o false
      inner None = refl
      inner (Some s) = keeps s

  -- a mark that is set
  set_mark_in : (a : MarkedMap X) (i : ℕ) (f : Marked X → Marked X) (m : Mark) → IsSome (get a i)
      → ((s : Marked X) → mark_of (f s) m ≡ true) → marked_in (rewrite a i f) m ≡ set.insert (marked_in a m) i
  set_mark_in a i f m there sets =
      same_marks _ m _ (λ q.
      is_marked-rewrite a i f q m
      ∙ cond_at q i _ true _ (λ e. rw e (written (map.get a i) there))
      ∙ test (eqb q i) _
      ∙ (λ j. sym (eq_by_cmp-nat_cmp q i) j || sym (contains-marked_in a m q) j)
      ∙ sym (set.contains-insert nat_cmp_total (marked_in a m) i q))
    where
      test : (b c : Bool) → cond b true c ≡ (b || c)
      test true c = refl
      test false c = refl

      written : (o : Option (Marked X)) → IsSome (option_map (λ s. s.value) o)
          → option_map_or (λ s. mark_of (f s) m) o false ≡ true
      written None there = absurd (false≢true there)
      written (Some s) there = sets s

  -- a mark that is taken
  clear_mark_in : (a : MarkedMap X) (i : ℕ) (f : Marked X → Marked X) (m : Mark)
      → ((s : Marked X) → mark_of (f s) m ≡ false) → marked_in (rewrite a i f) m ≡ set.remove (marked_in a m) i
  clear_mark_in a i f m clears =
      same_marks _ m _ (λ q.
      is_marked-rewrite a i f q m
      ∙ ap (λ b. cond (eqb q i) b (is_marked a q m)) (written (map.get a q))
      ∙ without_false (eqb q i) _
      ∙ (λ j. not (sym (eq_by_cmp-nat_cmp q i) j) && sym (contains-marked_in a m q) j)
      ∙ sym (set.contains-remove nat_cmp_total (marked_in a m) i q))
    where
      written : (o : Option (Marked X)) → option_map_or (λ s. mark_of (f s) m) o false ≡ false
      written None = refl
      written (Some s) = clears s

  -- Setting a mark of an entry sets it in the array.
  pub array_of-set_mark : (a : MarkedMap X) (i : ℕ) (m : Mark) → IsSome (get a i)
      → array_of (write_mark a i m true) ≡ ix.with_mark (array_of a) i m
  array_of-set_mark a i M0 there =
      by_parts _ _ (values-write_mark a i M0 true) (set_mark_in a i _ M0 there (λ s. refl))
      (kept_mark a i _ M1 (λ s. refl)) (kept_mark a i _ M2 (λ s. refl))
  array_of-set_mark a i M1 there =
      by_parts _ _ (values-write_mark a i M1 true) (kept_mark a i _ M0 (λ s. refl))
      (set_mark_in a i _ M1 there (λ s. refl)) (kept_mark a i _ M2 (λ s. refl))
  array_of-set_mark a i M2 there =
      by_parts _ _ (values-write_mark a i M2 true) (kept_mark a i _ M0 (λ s. refl)) (kept_mark a i _ M1 (λ s. refl))
      (set_mark_in a i _ M2 there (λ s. refl))

  -- Clearing a mark clears it in the array.
  pub array_of-clear_mark : (a : MarkedMap X) (i : ℕ) (m : Mark)
      → array_of (write_mark a i m false) ≡ ix.without_mark (array_of a) i m
  array_of-clear_mark a i M0 =
      by_parts _ _ (values-write_mark a i M0 false) (clear_mark_in a i _ M0 (λ s. refl))
      (kept_mark a i _ M1 (λ s. refl)) (kept_mark a i _ M2 (λ s. refl))
  array_of-clear_mark a i M1 =
      by_parts _ _ (values-write_mark a i M1 false) (kept_mark a i _ M0 (λ s. refl))
      (clear_mark_in a i _ M1 (λ s. refl)) (kept_mark a i _ M2 (λ s. refl))
  array_of-clear_mark a i M2 =
      by_parts _ _ (values-write_mark a i M2 false) (kept_mark a i _ M0 (λ s. refl)) (kept_mark a i _ M1 (λ s. refl))
      (clear_mark_in a i _ M2 (λ s. refl))

  -- The array has a mark at exactly those indices whose entries carry it.
  pub marked_with-array_of : (a : MarkedMap X) (m : Mark) (q : ℕ)
      → set.contains (ix.marked_with (array_of a) m) q ≡ is_marked a q m
  marked_with-array_of a M0 q = contains-marked_in a M0 q
  marked_with-array_of a M1 q = contains-marked_in a M1 q
  marked_with-array_of a M2 q = contains-marked_in a M2 q

  -- Each index with a mark has an entry.
  pub marked_is_key : (a : MarkedMap X) (m : Mark) (q : ℕ) → IsTrue (set.contains (ix.marked_with (array_of a) m) q)
      → IsTrue (map.contains_key (array_of a).items q)
  marked_is_key a m q marked = contains_key-values a q ∙ some (map.get a q) (sym (marked_with-array_of a m q) ∙ marked)
    where
      some : (o : Option (Marked X)) → option_map_or (λ s. mark_of s m) o false ≡ true → is_some o ≡ true
      some None e = absurd (false≢true e)
      some (Some s) e = refl

  -- Setting or clearing a mark of an entry does the same in the array.
  pub array_of-write_mark : (a : MarkedMap X) (i : ℕ) (m : Mark) (b : Bool) → IsSome (get a i)
      → array_of (write_mark a i m b) ≡ ix.written_mark (array_of a) i m b
  array_of-write_mark a i m true there = array_of-set_mark a i m there
  array_of-write_mark a i m false there = array_of-clear_mark a i m

  -- The map of values has as many entries.
  pub len-values : (a : MarkedMap X) → map.len (values a) ≡ map.len a
  unfolding values pairs_by
  len-values a =
      map.len-entries _
      ∙ ap length
      (map.entries-from_sorted nat_cmp _ (subst T (sym (is_sorted-pairs_by (λ s. s.value) (map.entries a))) (map.entries_sorted a)))
      ∙ length_pairs_by (map.entries a)
      ∙ sym (map.len-entries a)
    where
      length_pairs_by : (es : List (ℕ × Marked X))
          → length {A = ℕ × X} (list_map (λ e. (e.0, e.1.value)) es) ≡ length es
      length_pairs_by [] = refl
      length_pairs_by (e ∷ es) = ap suc (length_pairs_by es)

-- an entry that is rewritten is neither more nor less
len-rewritten : {T : Type 0} (a : MarkedMap T) (i : ℕ) (f : Marked T → Marked T) (o : Option (Marked T))
    → map.get a i ≡ o → map.len (rewritten a i f o) ≡ map.len a
len-rewritten a i f None is = refl
len-rewritten a i f (Some s) is =
    map.len-insert nat_cmp_total a i (f s) ∙ ap (λ o. cond (is_some o) (map.len a) (map.len a + 1)) is

-- Setting a value keeps the number of entries.
pub len-set_value : {T : Type 0} (a : MarkedMap T) (i : ℕ) (w : T) → map.len (set_value a i w) ≡ map.len a
unfolding rewrite
len-set_value a i w = len-rewritten a i (λ s. record s { value = w }) (map.get a i) refl

-- Writing a mark keeps the number of entries.
pub len-write_mark : {T : Type 0} (a : MarkedMap T) (i : ℕ) (m : Mark) (b : Bool)
    → map.len (write_mark a i m b) ≡ map.len a
unfolding rewrite
len-write_mark a i m b = len-rewritten a i (λ s. with_mark s m b) (map.get a i) refl

-- Writing a mark changes the marks of the entry at its index if there is one, and no other.
pub entry_written : {T : Type 0} (a : MarkedMap T) (i : ℕ) (m : Mark) (b : Bool) (k : ℕ)
    → map.get (write_mark a i m b) k ≡ cond (eqb k i) (option_map (λ s. with_mark s m b) (map.get a i)) (map.get a k)
entry_written a i m b k =
    get-rewrite a i (λ s. with_mark s m b) k ∙ elim (cases_eq k i) as (λ _. cond (eqb k i) (option_map (λ s. with_mark s m b) (map.get a k)) (map.get a k) ≡ cond (eqb k i) (option_map (λ s. with_mark s m b) (map.get a i)) (map.get a k)) [
      | inl same ↦ ap (λ n. cond (eqb k i) (option_map (λ s. with_mark s m b) (map.get a n)) (map.get a k)) same
      | inr apart ↦ rw (ne_eqb k i apart) refl
    ]

-- A map that differs from another by a mark at an index only is that map with the mark written.
pub written_by : {T : Type 0} (old now : MarkedMap T) (i : ℕ) (m : Mark) (b : Bool)
    → ((k : ℕ) → map.get now k ≡ cond (eqb k i) (option_map (λ s. with_mark s m b) (map.get old i)) (map.get old k))
    → now ≡ write_mark old i m b
written_by old now i m b gets =
    same_by_gets now (write_mark old i m b) (λ k. gets k ∙ sym (entry_written old i m b k))

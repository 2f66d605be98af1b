-- Lists of rows that represent entries in the order of their keys.
use Rattle.std.proofs.Common.{◌≡◌, ℕ, zero, suc, Bool, true, false, not, ◌&&◌, eqb, cond, T, List, [], ◌∷◌, ◌++◌, map, filter, length, slice_get, find as find_row, is_some, Option, Some, None, option_map, option_and_then, unwrap_or, refl, sym, ap, subst, ◌∙◌, arith, Ordering, Less, Equal, Greater, is_lt, is_eq, nat_cmp}
use Rattle.std.specs.Ordering.{ordering_reverse, eq_by_cmp}
use Rattle.std.specs.Cmp.{IsTotalOrder, tied_itself, nat_cmp_total}
use Rattle.std.specs.List.{AllByRecursion}
use Rattle.std.specs.FinMap as fin
use Rattle.std.specs.FinMap.{IsAntisymmetric, nat_cmp-IsAntisymmetric}
use Rattle.std.specs.FinMap.Entries.{find, put, where_key, is_sorted, below_all, by_order, find_tied, is_sorted-where_key, find-where_key, same_entries}
use Rattle.std.proofs.lemmas.Bool.{false≢true}
use Rattle.std.proofs.lemmas.Bool.Decides.{nat_tests}
use Rattle.drm_index_array.proofs.MarkedLemmas.{get-remove}
use Rattle.drm_index_array.specs.Rows.{placed, InOrder}
use Rattle.std.proofs.lemmas.Option.{none-some}

-- If both tests pass together, the first one does.
pub left : (a b : Bool) → T (a && b) → T a
left true b h = tt
left false b h = h

-- If both tests pass together, the second one does.
pub right : (a b : Bool) → T (a && b) → T b
right true b h = h
right false b h = absurd h

-- Two tests that pass also pass together.
pub both : (a b : Bool) → T a → T b → T (a && b)
both true b h k = k
both false b h k = h

-- A test that passes is `true`.
pub T_true : (b : Bool) → T b → b ≡ true
T_true true h = refl
T_true false h = absurd h

less : (r : Ordering) → T (is_lt r) → r ≡ Less
less Less h = refl
less Equal h = absurd h
less Greater h = absurd h

equal : (r : Ordering) → is_eq r ≡ true → r ≡ Equal
equal Less h = absurd (false≢true h)
equal Equal h = refl
equal Greater h = absurd (false≢true h)

lt_back : {K : Type 0} (R : K → K → Ordering) (o : IsTotalOrder R) (x y : K) → T (is_lt (R x y)) → is_lt (R y x) ≡ false
lt_back R o x y h = ap is_lt (o.antisymm y x ∙ ap ordering_reverse (less (R x y) h))

module _ {K X : Type 0} (R : K → K → Ordering) (o : IsTotalOrder R) where
  -- A key below each key of a list is not found in it.
  pub find_below : (q : K) (es : List (K × X)) → T (below_all R q es) → find R q es ≡ None
  find_below q [] h = refl
  find_below q (e ∷ es) h =
      ap (λ r. cond (is_eq r) (Some e.1) (find R q es)) (less _ (left _ _ h)) ∙ find_below q es (right _ _ h)

  find_first : (e : K × X) (es : List (K × X)) → find R e.0 (e ∷ es) ≡ Some e.1
  find_first e es = ap (λ r. cond (is_eq r) (Some e.1) (find R e.0 es)) (tied_itself o e.0)

  -- A key less than one that is below all keys is below all of them too.
  pub below_less : (x y : K) (es : List (K × X)) → R x y ≡ Less → T (below_all R y es) → T (below_all R x es)
  below_less x y [] p h = tt
  below_less x y (e ∷ es) p h =
      both _ _ (subst (λ r. T (is_lt r)) (sym (o.trans x y e.0 p (less _ (left _ _ h)))) tt)
      (below_less x y es p (right _ _ h))

  -- A key found after the first entry of a sorted list is found in the whole list.
  pub skip_first : (e : K × X) (es : List (K × X)) → T (is_sorted R (e ∷ es)) → (k : K) (v : X) → find R k es ≡ Some v
      → find R k (e ∷ es) ≡ Some v
  skip_first e es h k v found =
      elim (eq_by_cmp R k e.0) as (λ b. eq_by_cmp R k e.0 ≡ b → cond b (Some e.1) (find R k es) ≡ Some v) [
        | true ↦ λ p. absurd (none-some v (sym (find_below e.0 es (left _ _ h)) ∙ find_tied R o k e.0 (equal _ p) es ∙ found))
        | false ↦ λ p. found
      ] refl

  module _ {Y : Type 0} (row : K × X → Y) where
    -- The rows of the entries whose keys pass are the rows that pass.
    pub rows_where : (p : K → Bool) (q : Y → Bool) → ((e : K × X) → q (row e) ≡ p e.0) → (es : List (K × X))
        → map row (where_key R p es) ≡ filter q (map row es)
    rows_where p q is [] = refl
    rows_where p q is (e ∷ es) =
        let rest = rows_where p q is es in
        elim (p e.0) as (λ b. q (row e) ≡ b → map row (cond b (e ∷ where_key R p es) (where_key R p es)) ≡ filter q (row e ∷ map row es)) [
          | true ↦ λ t. ap (λ l. row e ∷ l) rest ∙ ap (λ b. cond b (row e ∷ filter q (map row es)) (filter q (map row es))) (sym t)
          | false ↦ λ t. rest ∙ ap (λ b. cond b (row e ∷ filter q (map row es)) (filter q (map row es))) (sym t)
        ] (is e)

    -- The row found by a key is that of the key's entry.
    pub find_rows : IsAntisymmetric R → (k : K) (q : Y → Bool) → ((e : K × X) → q (row e) ≡ eq_by_cmp R k e.0)
        → (es : List (K × X)) → find_row q (map row es) ≡ option_map (λ v. row (k, v)) (find R k es)
    find_rows exact k q is [] = refl
    find_rows exact k q is (e ∷ es) =
        ap (λ b. cond b (Some (row e)) (find_row q (map row es))) (is e)
        ∙ elim (eq_by_cmp R k e.0) as (λ b. eq_by_cmp R k e.0 ≡ b → cond b (Some (row e)) (find_row q (map row es)) ≡ option_map (λ v. row (k, v)) (cond b (Some e.1) (find R k es))) [
          | true ↦ λ t. ap (λ x. Some (row (x, e.1))) (sym (exact k e.0 (equal _ t)))
          | false ↦ λ t. find_rows exact k q is es
        ] refl

    -- What is true of each entry that is found is true of each row.
    pub all_rows : (P : Y → Type 0) (es : List (K × X)) → T (is_sorted R es)
        → ((k : K) (v : X) → find R k es ≡ Some v → P (row (k, v))) → AllByRecursion P (map row es)
    all_rows P [] h each = tt
    all_rows P (e ∷ es) h each =
        (each e.0 e.1 (find_first e es), all_rows P es (right _ _ h) (λ k v found. each k v (skip_first e es h k v found)))

    module _ (before : Y → Y → Bool) (is : (e f : K × X) → before (row e) (row f) ≡ is_lt (R e.0 f.0)) where
      before_all : (e : K × X) (es : List (K × X)) → T (below_all R e.0 es)
          → AllByRecursion (λ y. before (row e) y ≡ true) (map row es)
      before_all e [] h = tt
      before_all e (f ∷ es) h = (is e f ∙ T_true _ (left _ _ h), before_all e es (right _ _ h))

      -- The rows are in the order of the keys.
      pub rows_in_order : (es : List (K × X)) → T (is_sorted R es) → InOrder before (map row es)
      rows_in_order [] h = tt
      rows_in_order (e ∷ es) h = (before_all e es (left _ _ h), rows_in_order es (right _ _ h))

      none_before : (e : K × X) (es : List (K × X)) → T (below_all R e.0 es)
          → filter (λ y. before y (row e)) (map row es) ≡ []
      none_before e [] h = refl
      none_before e (f ∷ es) h =
          ap
          (λ b. cond b (row f ∷ filter (λ y. before y (row e)) (map row es)) (filter (λ y. before y (row e)) (map row es)))
          (is f e ∙ lt_back R o e.0 f.0 (left _ _ h))
          ∙ none_before e es (right _ _ h)

      all_behind : (e : K × X) (es : List (K × X)) → T (below_all R e.0 es)
          → filter (λ y. not (before y (row e))) (map row es) ≡ map row es
      all_behind e [] h = refl
      all_behind e (f ∷ es) h =
          ap
          (λ b. cond (not b) (row f ∷ filter (λ y. not (before y (row e))) (map row es)) (filter (λ y. not (before y (row e))) (map row es)))
          (is f e ∙ lt_back R o e.0 f.0 (left _ _ h))
          ∙ ap (λ l. row f ∷ l) (all_behind e es (right _ _ h))

      -- An entry at a new key is a row put at its place.
      pub rows_put : (k : K) (v : X) (es : List (K × X)) → T (is_sorted R es) → find R k es ≡ None
          → map row (put R k v es) ≡ placed before (row (k, v)) (map row es)
      rows_put k v [] h none = refl
      rows_put k v (e ∷ es) h none =
          let x = row (k, v) in
          elim (R k e.0) as (λ r. R k e.0 ≡ r → map row (by_order r ((k, v) ∷ e ∷ es) ((e.0, v) ∷ es) (e ∷ put R k v es)) ≡ placed before x (map row (e ∷ es))) [
            | Less ↦ λ p.
                let below : T (below_all R k (e ∷ es)) =
                both _ _ (subst (λ r. T (is_lt r)) (sym p) tt) (below_less k e.0 es p (left _ _ h)) in
                λ i. sym (none_before (k, v) (e ∷ es) below) i ++ x ∷ sym (all_behind (k, v) (e ∷ es) below) i
            | Equal ↦ λ p. absurd (none-some e.1 (sym none ∙ ap (λ r. cond (is_eq r) (Some e.1) (find R k es)) p))
            | Greater ↦ λ p.
                let here : before (row e) x ≡ true =
                is e (k, v) ∙ ap is_lt (o.antisymm e.0 k ∙ ap ordering_reverse p) in
                ap (λ l. row e ∷ l)
                (rows_put k v es (right _ _ h) (sym (ap (λ r. cond (is_eq r) (Some e.1) (find R k es)) p) ∙ none))
                ∙ ap
                (λ b. cond b (row e ∷ filter (λ y. before y x) (map row es)) (filter (λ y. before y x) (map row es)) ++ x ∷ cond (not b) (row e ∷ filter (λ y. not (before y x)) (map row es)) (filter (λ y. not (before y x)) (map row es)))
                (sym here)
          ] refl

  -- a key that ties with one below all is below all
  others : (k : K) (e : K × X) (es : List (K × X)) → R k e.0 ≡ Equal → T (below_all R e.0 es)
      → AllByRecursion (λ f. eq_by_cmp R k f.0 ≡ false) es
  others k e [] p h = tt
  others k e (f ∷ es) p h = (ap is_eq (o.congr k e.0 f.0 p ∙ less _ (left _ _ h)), others k e es p (right _ _ h))

  module _ {Y : Type 0} (row : K × X → Y) (f : Y → Y) (k : K) (kept : (e : K × X) → eq_by_cmp R k e.0 ≡ false → f (row e) ≡ row e) where
    kept_all : (es : List (K × X)) → AllByRecursion (λ e. eq_by_cmp R k e.0 ≡ false) es
        → map row es ≡ map f (map row es)
    kept_all [] h = refl
    kept_all (e ∷ es) h = λ i. sym (kept e h.0) i ∷ kept_all es h.1 i

    -- Another value at a key that exists changes the row of this key only.
    pub rows_put_found : (v w : X) → ((e : K × X) → eq_by_cmp R k e.0 ≡ true → e.1 ≡ v → row (e.0, w) ≡ f (row e))
        → (es : List (K × X)) → T (is_sorted R es) → find R k es ≡ Some v → map row (put R k w es) ≡ map f (map row es)
    rows_put_found v w new [] h found = absurd (none-some v found)
    rows_put_found v w new (e ∷ es) h found =
        elim (R k e.0) as (λ r. R k e.0 ≡ r → map row (by_order r ((k, w) ∷ e ∷ es) ((e.0, w) ∷ es) (e ∷ put R k w es)) ≡ map f (map row (e ∷ es))) [
          | Less ↦ λ p.
              let below : T (below_all R k (e ∷ es)) =
              both _ _ (subst (λ r. T (is_lt r)) (sym p) tt) (below_less k e.0 es p (left _ _ h)) in
              absurd (none-some v (sym (find_below k (e ∷ es) below) ∙ found))
          | Equal ↦ λ p.
              let same : Some e.1 ≡ Some v = sym (ap (λ r. cond (is_eq r) (Some e.1) (find R k es)) p) ∙ found in
              let value : e.1 ≡ v = ap (λ x. unwrap_or x v) same in
              λ i. new e (ap is_eq p) value i ∷ kept_all es (others k e es p (left _ _ h)) i
          | Greater ↦ λ p.
              let later : find R k es ≡ Some v = sym (ap (λ r. cond (is_eq r) (Some e.1) (find R k es)) p) ∙ found in
              λ i. sym (kept e (ap is_eq p)) i ∷ rows_put_found v w new es (right _ _ h) later i
        ] refl

-- ---- by numbers

tied_key : (a b : ℕ) → a ≡ b → eq_by_cmp nat_cmp a b ≡ true
tied_key a b same = grind (arith, nat_tests)

module _ {X Y : Type 0} where
  -- The row at a place is that of the key at this place.
  pub nth_by_key : (row : ℕ × X → Y) (es : List (ℕ × X)) → T (is_sorted nat_cmp es) → (i : ℕ)
      → option_and_then (λ k. option_map (λ v. row (k, v)) (find nat_cmp k es)) (slice_get (map (λ e. e.0) es) i) ≡ slice_get (map row es) i
  nth_by_key row [] h i = refl
  nth_by_key row (e ∷ es) h zero =
      ap (λ b. option_map (λ v. row (e.0, v)) (cond b (Some e.1) (find nat_cmp e.0 es))) (tied_key e.0 e.0 refl)
  nth_by_key row (e ∷ es) h (suc i) =
      later (slice_get (map (λ f. f.0) es) i) (λ k is. key_there es k i is) ∙ nth_by_key row es (right _ _ h) i
    where
      key_there : (fs : List (ℕ × X)) (k i : ℕ) → slice_get (map (λ f. f.0) fs) i ≡ Some k
          → is_some (find nat_cmp k fs) ≡ true
      key_there [] k i is = absurd (none-some k is)
      key_there (f ∷ fs) k zero is =
          ap (λ b. is_some (cond b (Some f.1) (find nat_cmp k fs))) (tied_key k f.0 (sym (ap (λ x. unwrap_or x 0) is)))
      key_there (f ∷ fs) k (suc i) is =
          elim (eq_by_cmp nat_cmp k f.0) as (λ b. is_some (cond b (Some f.1) (find nat_cmp k fs)) ≡ true) [ true ↦ refl | false ↦ key_there fs k i is ]

      skipped : (k : ℕ) (x : Option X) → find nat_cmp k es ≡ x → is_some x ≡ true
          → find nat_cmp k (e ∷ es) ≡ find nat_cmp k es
      skipped k None is there = absurd (false≢true there)
      skipped k (Some v) is there = skip_first nat_cmp nat_cmp_total e es h k v is ∙ sym is

      later : (x : Option ℕ) → ((k : ℕ) → x ≡ Some k → is_some (find nat_cmp k es) ≡ true) →
          option_and_then (λ k. option_map (λ v. row (k, v)) (find nat_cmp k (e ∷ es))) x ≡ option_and_then
          (λ k. option_map (λ v. row (k, v)) (find nat_cmp k es)) x
      later None there = refl
      later (Some k) there = ap (option_map (λ v. row (k, v))) (skipped k (find nat_cmp k es) refl (there k refl))

module _ {X : Type 0} (m : fin.FinMap nat_cmp X) (c : ℕ) where
  -- The entries after a removal are those of all other keys.
  pub entries_removed : fin.entries (fin.remove m c) ≡ where_key nat_cmp (λ k. not (eq_by_cmp nat_cmp c k)) (fin.entries m)
  entries_removed =
      same_entries nat_cmp nat_cmp_total nat_cmp-IsAntisymmetric _ _ (fin.entries_sorted (fin.remove m c)) (is_sorted-where_key nat_cmp _ (fin.entries m) (fin.entries_sorted m)) (λ q.
      sym (fin.get-entries (fin.remove m c) q) ∙ get-remove m c q ∙ turn q
      ∙ ap (λ x. cond (not (eq_by_cmp nat_cmp c q)) x None) (fin.get-entries m q)
      ∙ sym (find-where_key nat_cmp (λ k. not (eq_by_cmp nat_cmp c k)) q (λ x t. ap (λ k. not (eq_by_cmp nat_cmp c k)) (sym (nat_cmp-IsAntisymmetric q x t))) (fin.entries m)))
    where
      swap : (b : Bool) (x : Option X) → cond b None x ≡ cond (not b) x None
      swap true x = refl
      swap false x = refl

      test : (q : ℕ) → eqb q c ≡ eq_by_cmp nat_cmp c q
      test q = grind (arith, nat_tests)

      turn : (q : ℕ) → cond (eqb q c) None (fin.get m q) ≡ cond (not (eq_by_cmp nat_cmp c q)) (fin.get m q) None
      turn q = swap (eqb q c) (fin.get m q) ∙ ap (λ b. cond (not b) (fin.get m q) None) (test q)

  -- There are as many rows as entries.
  pub rows_length : {Y : Type 0} (row : ℕ × X → Y) → length (map row (fin.entries m)) ≡ fin.len m
  rows_length {Y} row = length_of (fin.entries m) ∙ sym (fin.len-entries m)
    where
      length_of : (es : List (ℕ × X)) → length (map row es) ≡ length es
      length_of [] = refl
      length_of (e ∷ es) = ap (λ n. suc n) (length_of es)

  -- The row at a place is that of the map's key at this place.
  pub row_at : {Y : Type 0} (row : ℕ × X → Y) (i : ℕ)
      → option_and_then (λ k. option_map (λ v. row (k, v)) (fin.get m k)) (slice_get (fin.keys m) i) ≡ slice_get (map row (fin.entries m)) i
  row_at {Y} row i = same (slice_get (fin.keys m) i) ∙ nth_by_key row (fin.entries m) (fin.entries_sorted m) i
    where
      same : (k : Option ℕ)
          → option_and_then (λ h. option_map (λ v. row (h, v)) (fin.get m h)) k ≡ option_and_then (λ h. option_map (λ v. row (h, v)) (find nat_cmp h (fin.entries m))) k
      same None = refl
      same (Some h) = ap (option_map (λ v. row (h, v))) (fin.get-entries m h)

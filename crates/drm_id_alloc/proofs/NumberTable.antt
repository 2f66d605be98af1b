-- The rows of a table of numbers.
use Rattle.std.proofs.Common.{◌≡◌, ℕ, ◌<◌, ◌==◌, ◌&&◌, ◌||◌, nat_lt, Bool, true, false, not, cond, T, List, [], ◌∷◌, map, filter, find as find_row, length, Some, None, option_map, option_and_then, refl, sym, ap, ◌∙◌, inl, inr, arith, nat_cmp, is_lt, Less, eq-eqb}
use Rattle.std.specs.List.{AllByRecursion, list_any}
use Rattle.std.specs.Ordering.{eq_by_cmp}
use Rattle.std.specs.Cmp.{nat_cmp_total}
use Rattle.std.specs.FinMap as fin
use Rattle.std.specs.FinMap.Entries.{find, is_sorted}
use Rattle.std.proofs.lemmas.Bool.{cases_lt, cases_eq, ne_eqb}
use Rattle.std.proofs.lemmas.Bool.Decides.{nat_tests}
use Rattle.std.proofs.lemmas.Option.{none-some, same_Some}
use Rattle.drm_index_array.specs.Numbers.{is_among}
use Rattle.drm_index_array.proofs.FoundInLists.{find_none}
use Rattle.drm_index_array.specs.Least.{least}
use Rattle.drm_index_array.specs.Rows.{placed, InOrder}
use Rattle.drm_index_array.proofs.Least.{least-same}
use Rattle.drm_index_array.proofs.MarkedLemmas.{eq_by_cmp-nat_cmp}
use Rattle.drm_index_array.proofs.RowsByKey.{left, right, find_below, below_less, skip_first, rows_where, find_rows, all_rows, rows_in_order, rows_put, entries_removed}
use Rattle.drm_index_array.proofs.Entries.{same_test, before_test}

less_of : (a b : ℕ) → a < b → nat_cmp a b ≡ Less
less_of a b lt = grind (arith, nat_tests)

same_of : (a b : ℕ) → eq_by_cmp nat_cmp a b ≡ true → a ≡ b
same_of a b same = grind (arith, nat_tests)

module _ {X : Type 0} where
  first_entry : (e : ℕ × X) (es : List (ℕ × X)) → find nat_cmp e.0 (e ∷ es) ≡ Some e.1
  first_entry e es = ap (λ b. cond b (Some e.1) (find nat_cmp e.0 es)) (eq_by_cmp-nat_cmp e.0 e.0 ∙ eq-eqb e.0 e.0 refl)

  later_entry : (e : ℕ × X) (es : List (ℕ × X)) (n : ℕ) → (n ≡ e.0 → ⊥) → find nat_cmp n (e ∷ es) ≡ find nat_cmp n es
  later_entry e es n apart =
      ap (λ b. cond b (Some e.1) (find nat_cmp n es)) (eq_by_cmp-nat_cmp n e.0 ∙ ne_eqb n e.0 apart)

  -- a number that is found after the first is greater
  behind_first : (e : ℕ × X) (es : List (ℕ × X)) → T (is_sorted nat_cmp (e ∷ es)) → (n : ℕ) (v : X)
      → find nat_cmp n es ≡ Some v → e.0 < n
  behind_first e es h n v found =
      elim (cases_lt e.0 n) [
        | inl less ↦ less
        | inr le ↦ elim (cases_eq n e.0) [
          | inl same ↦ absurd (none-some v (sym (find_below nat_cmp nat_cmp_total e.0 es (left _ _ h)) ∙ ap (λ k. find nat_cmp k es) (sym same) ∙ found))
          | inr apart ↦
              let below =
              below_less nat_cmp nat_cmp_total n e.0 es (less_of n e.0 (omega (arith, le, apart))) (left _ _ h) in
              absurd (none-some v (sym (find_below nat_cmp nat_cmp_total n es below) ∙ found))
        ]
      ]

module _ {X Y : Type 0} (row : ℕ × X → Y) (number : Y → ℕ) (is : (e : ℕ × X) → number (row e) ≡ e.0) where
  number_test : (n : ℕ) (e : ℕ × X) → (number (row e) == n) ≡ eq_by_cmp nat_cmp n e.0
  number_test n e = ap (λ k. k == n) (is e) ∙ same_test n e.0

  number_order : (e f : ℕ × X) → nat_lt (number (row e)) (number (row f)) ≡ is_lt (nat_cmp e.0 f.0)
  number_order e f = (λ i. nat_lt (is e i) (is f i)) ∙ before_test e.0 f.0

  -- The row found by a number is that of the table's value at it.
  pub find_number : (m : fin.FinMap nat_cmp X) (n : ℕ)
      → find_row (λ y. number y == n) (map row (fin.entries m)) ≡ option_map (λ v. row (n, v)) (fin.get m n)
  find_number m n =
      find_rows nat_cmp nat_cmp_total row fin.nat_cmp-IsAntisymmetric n (λ y. number y == n) (number_test n)
      (fin.entries m)
      ∙ ap (option_map (λ v. row (n, v))) (sym (fin.get-entries m n))

  find_also_in : (n : ℕ) (q : Y → Bool) (es : List (ℕ × X)) → T (is_sorted nat_cmp es)
      → find_row (λ y. (number y == n) && q y) (map row es) ≡ option_and_then (λ v. cond (q (row (n, v))) (Some (row (n, v))) None) (find nat_cmp n es)
  find_also_in n q [] h = refl
  find_also_in n q (e ∷ es) h =
      ap (λ b. cond (b && q (row e)) (Some (row e)) (find_row (λ y. (number y == n) && q y) (map row es)))
      (number_test n e)
      ∙ elim (eq_by_cmp nat_cmp n e.0) as (λ b. eq_by_cmp nat_cmp n e.0 ≡ b → cond (b && q (row e)) (Some (row e)) (find_row (λ y. (number y == n) && q y) (map row es)) ≡ option_and_then (λ v. cond (q (row (n, v))) (Some (row (n, v))) None) (cond b (Some e.1) (find nat_cmp n es))) [
        | true ↦ λ t.
            let same : n ≡ e.0 = same_of n e.0 t in
            let none : find nat_cmp n es ≡ None =
            ap (λ k. find nat_cmp k es) same ∙ find_below nat_cmp nat_cmp_total e.0 es (left _ _ h) in
            ap (cond (q (row e)) (Some (row e)))
            (find_also_in n q es (right _ _ h) ∙ ap (option_and_then (λ v. cond (q (row (n, v))) (Some (row (n, v))) None)) none)
            ∙ ap (λ k. cond (q (row (k, e.1))) (Some (row (k, e.1))) None) (sym same)
        | false ↦ λ t. find_also_in n q es (right _ _ h)
      ] refl

  -- The row found by a number and a test is that of the table's value if it passes.
  pub find_also : (m : fin.FinMap nat_cmp X) (n : ℕ) (q : Y → Bool)
      → find_row (λ y. (number y == n) && q y) (map row (fin.entries m)) ≡ option_and_then (λ v. cond (q (row (n, v))) (Some (row (n, v))) None) (fin.get m n)
  find_also m n q =
      find_also_in n q (fin.entries m) (fin.entries_sorted m)
      ∙ ap (option_and_then (λ v. cond (q (row (n, v))) (Some (row (n, v))) None)) (sym (fin.get-entries m n))

  -- A value at a new number puts its row at its place.
  pub rows_added : (m : fin.FinMap nat_cmp X) (n : ℕ) (v : X) → fin.get m n ≡ None
      → map row (fin.entries (fin.insert m n v)) ≡ placed (λ x y. nat_lt (number x) (number y)) (row (n, v)) (map row (fin.entries m))
  rows_added m n v none =
      ap (map row) (fin.entries-insert nat_cmp_total m n v)
      ∙ rows_put nat_cmp nat_cmp_total row (λ x y. nat_lt (number x) (number y)) number_order n v (fin.entries m)
      (fin.entries_sorted m) (sym (fin.get-entries m n) ∙ none)

  -- The rows after a removal are the rows without those of this number.
  pub rows_removed : (m : fin.FinMap nat_cmp X) (n : ℕ)
      → map row (fin.entries (fin.remove m n)) ≡ filter (λ y. not (number y == n)) (map row (fin.entries m))
  rows_removed m n =
      ap (map row) (entries_removed m n)
      ∙ rows_where nat_cmp nat_cmp_total row (λ k. not (eq_by_cmp nat_cmp n k)) (λ y. not (number y == n))
      (λ e. ap not (number_test n e)) (fin.entries m)

  -- The rows of a table rise by their numbers.
  pub rows_rise : (m : fin.FinMap nat_cmp X) → InOrder (λ x y. nat_lt (number x) (number y)) (map row (fin.entries m))
  rows_rise m =
      rows_in_order nat_cmp nat_cmp_total row (λ x y. nat_lt (number x) (number y)) number_order (fin.entries m)
      (fin.entries_sorted m)

  numbers_in : (es : List (ℕ × X)) (k : ℕ)
      → is_among (map number (map row es)) k ≡ list_any (eq_by_cmp nat_cmp k) (map (λ e. e.0) es)
  numbers_in [] k = refl
  numbers_in (e ∷ es) k = λ i. number_test k e i || numbers_in es k i

  -- The lowest number without a row is the lowest that the table has no value at.
  pub least_free_is : (m : fin.FinMap nat_cmp X) (from to : ℕ)
      → least (λ n. not (is_among (map number (map row (fin.entries m))) n)) from to ≡ least (λ n. not (fin.contains_key m n)) from to
  least_free_is m from to =
      least-same _ _ from to (λ k low high. ap not (numbers_in (fin.entries m) k ∙ sym (fin.contains_key-keys m k)))

module _ {X Y : Type 0} (row : ℕ × X → Y) where
  no_entries : (es : List (ℕ × X)) → length es ≡ 0 → map row es ≡ []
  no_entries [] e = refl
  no_entries (x ∷ es) e = absurd (omega (arith, e))

  -- An empty table has no rows.
  pub no_rows : map row (fin.entries (fin.empty {K = ℕ} {X = X} {R = nat_cmp})) ≡ []
  no_rows = no_entries _ (sym (fin.len-entries fin.empty) ∙ fin.len-empty nat_cmp X)

  pairs_in : (before : Y → Y → Bool) (es : List (ℕ × X)) → T (is_sorted nat_cmp es)
      → ((k l : ℕ) (v w : X) → find nat_cmp k es ≡ Some v → find nat_cmp l es ≡ Some w → (k ≡ l → ⊥) → before (row (k, v)) (row (l, w)) ≡ true)
      → InOrder before (map row es)
  pairs_in before [] h each = tt
  pairs_in before (e ∷ es) h each = (
    all_rows nat_cmp nat_cmp_total row (λ y. before (row e) y ≡ true) es (right _ _ h) (λ l w found.
        let less = behind_first e es h l w found in
        each e.0 l e.1 w (first_entry e es) (skip_first nat_cmp nat_cmp_total e es h l w found) (λ same. omega (arith, less, same))),
    pairs_in before es (right _ _ h)
        (λ k l v w at_k at_l. each k l v w (skip_first nat_cmp nat_cmp_total e es h k v at_k) (skip_first nat_cmp nat_cmp_total e es h l w at_l)),
  )

  first_in : (p : Y → Bool) (es : List (ℕ × X)) → T (is_sorted nat_cmp es) → (n : ℕ) (v : X)
      → find nat_cmp n es ≡ Some v → p (row (n, v)) ≡ true
      → ((k : ℕ) (w : X) → k < n → find nat_cmp k es ≡ Some w → p (row (k, w)) ≡ false)
      → find_row p (map row es) ≡ Some (row (n, v))
  first_in p [] h n v found passes below = absurd (none-some v found)
  first_in p (e ∷ es) h n v found passes below =
      elim (cases_eq n e.0) [
        | inl same ↦
            let value : v ≡ e.1 =
            same_Some v e.1 (sym found ∙ ap (λ k. find nat_cmp k (e ∷ es)) same ∙ first_entry e es) in
            let here : row (n, v) ≡ row e = λ i. row (same i, value i) in
            ap (λ b. cond b (Some (row e)) (find_row p (map row es))) (ap p (sym here) ∙ passes)
            ∙ ap (λ y. Some y) (sym here)
        | inr apart ↦
            let later : find nat_cmp n es ≡ Some v = sym (later_entry e es n apart) ∙ found in
            ap (λ b. cond b (Some (row e)) (find_row p (map row es)))
            (below e.0 e.1 (behind_first e es h n v later) (first_entry e es))
            ∙ first_in p es (right _ _ h) n v later passes
            (λ k w less at. below k w less (skip_first nat_cmp nat_cmp_total e es h k w at))
      ]

  module _ (m : fin.FinMap nat_cmp X) where
    -- What is true of each value at its number is true of each row.
    pub rows_all : (P : Y → Type 0) → ((k : ℕ) (v : X) → fin.get m k ≡ Some v → P (row (k, v)))
        → AllByRecursion P (map row (fin.entries m))
    rows_all P each =
        all_rows nat_cmp nat_cmp_total row P (fin.entries m) (fin.entries_sorted m)
        (λ k v found. each k v (fin.get-entries m k ∙ found))

    -- What is true of each two values at different numbers is true of each two rows.
    pub rows_pairs : (before : Y → Y → Bool)
        → ((k l : ℕ) (v w : X) → fin.get m k ≡ Some v → fin.get m l ≡ Some w → (k ≡ l → ⊥) → before (row (k, v)) (row (l, w)) ≡ true)
        → InOrder before (map row (fin.entries m))
    rows_pairs before each =
        pairs_in before (fin.entries m) (fin.entries_sorted m)
        (λ k l v w at_k at_l. each k l v w (fin.get-entries m k ∙ at_k) (fin.get-entries m l ∙ at_l))

    module _ (p : Y → Bool) where
      -- no row of a number below it passes
      abbrev pub FailBelow : ℕ → Type 0
      FailBelow to = (k : ℕ) (v : X) → k < to → fin.get m k ≡ Some v → p (row (k, v)) ≡ false

      -- If no value passes, no row does.
      pub none_found : ((k : ℕ) (v : X) → fin.get m k ≡ Some v → p (row (k, v)) ≡ false)
          → find_row p (map row (fin.entries m)) ≡ None
      none_found each = find_none p (map row (fin.entries m)) (rows_all (λ y. p y ≡ false) each)

      -- The first row that passes is that of the lowest number whose row passes.
      pub first_found : (n : ℕ) (v : X) → fin.get m n ≡ Some v → p (row (n, v)) ≡ true → FailBelow n
          → find_row p (map row (fin.entries m)) ≡ Some (row (n, v))
      first_found n v found passes below =
          first_in p (fin.entries m) (fin.entries_sorted m) n v (sym (fin.get-entries m n) ∙ found) passes
          (λ k w less at. below k w less (fin.get-entries m k ∙ at))

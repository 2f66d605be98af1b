-- How the entries of a map are met one after another.
use Rattle.std.proofs.Common.{◌≡◌, ℕ, zero, suc, ◌+◌, ◌-◌, ◌<◌, ◌≤◌, Bool, true, false, cond, eqb, nat_le, T, List, [], ◌∷◌, ◌++◌, slice_get, length, is_some, IsTrue, Option, Some, None, refl, sym, ap, ◌∙◌, inl, inr, arith, nat_cmp, is_lt}
use Rattle.std.specs.Cmp.{nat_cmp_total}
use Rattle.std.specs.FinMap as fin
use Rattle.std.specs.FinMap.{nat_cmp-IsAntisymmetric}
use Rattle.std.specs.FinMap.Entries.{find, where_key, is_sorted, below_all, is_sorted-where_key, find-where_key, same_entries}
use Rattle.std.proofs.lemmas.Bool.{cases_lt, cases_eq, false≢true}
use Rattle.std.proofs.lemmas.Bool.Decides.{nat_tests}
use Rattle.drm_index_array.proofs.FoundInLists.{is_some-false}
use Rattle.drm_index_array.specs.Least.{IsLeast}
use Rattle.drm_index_array.proofs.MarkedLemmas.{eq_by_cmp-nat_cmp}
use Rattle.drm_index_array.proofs.RowsByKey.{both}
use Rattle.drm_files.proofs.Flat.{eqb_same, eqb_other}
use Rattle.std.proofs.lemmas.Option.{none-some}

-- the entries from a number on
abbrev pub entries_from : {X : Type 0} → fin.FinMap nat_cmp X → ℕ → List (ℕ × X)
entries_from m from = where_key nat_cmp (λ k. nat_le from k) (fin.entries m)

le_yes : (a b : ℕ) → a ≤ b → nat_le a b ≡ true
le_yes a b le = grind (arith, nat_tests)

le_no : (a b : ℕ) → b < a → nat_le a b ≡ false
le_no a b lt = grind (arith, nat_tests)

lt_test : (a b : ℕ) → nat_le (a + 1) b ≡ true → is_lt (nat_cmp a b) ≡ true
lt_test a b le = grind (arith, nat_tests)

true_T : (b : Bool) → b ≡ true → T b
true_T true e = tt
true_T false e = absurd (false≢true e)

some_there : {X : Type 0} (x : Option X) → is_some x ≡ true → None ≡ x → ⊥
some_there x e none = false≢true (ap is_some none ∙ e)

module _ {X : Type 0} where
  above_from : (h : ℕ) (es : List (ℕ × X)) → T (below_all nat_cmp h (where_key nat_cmp (λ k. nat_le (h + 1) k) es))
  above_from h [] = tt
  above_from h (e ∷ es) =
      let rest = where_key nat_cmp (λ k. nat_le (h + 1) k) es in
      elim (nat_le (h + 1) e.0) as (λ b. nat_le (h + 1) e.0 ≡ b → T (below_all nat_cmp h (cond b (e ∷ rest) rest))) [
        | true ↦ λ le. both _ _ (true_T _ (lt_test h e.0 le)) (above_from h es)
        | false ↦ λ le. above_from h es
      ] refl

  module _ (m : fin.FinMap nat_cmp X) where
    find_from : (from q : ℕ) → find nat_cmp q (entries_from m from) ≡ cond (nat_le from q) (fin.get m q) None
    find_from from q =
        find-where_key nat_cmp (λ k. nat_le from k) q (λ x t. ap (nat_le from) (sym (nat_cmp-IsAntisymmetric q x t)))
        (fin.entries m)
        ∙ ap (λ y. cond (nat_le from q) y None) (sym (fin.get-entries m q))

    sorted_from : (from : ℕ) → T (is_sorted nat_cmp (entries_from m from))
    sorted_from from = is_sorted-where_key nat_cmp (λ k. nat_le from k) (fin.entries m) (fin.entries_sorted m)

    -- The entries from a number on are the lowest of them and the entries after it.
    pub from_least : (from to h : ℕ) (v : X) → IsLeast (fin.contains_key m) from to h → fin.get m h ≡ Some v
        → entries_from m from ≡ (h, v) ∷ entries_from m (h + 1)
    from_least from to h v is found =
        same_entries nat_cmp nat_cmp_total nat_cmp-IsAntisymmetric _ _ (sorted_from from) (both _ _ (above_from h (fin.entries m)) (sorted_from (h + 1))) (λ q.
        find_from from q ∙ at q ∙ (λ i. cond (sym (eq_by_cmp-nat_cmp q h) i) (Some v) (sym (find_from (h + 1) q) i)))
      where
        below : (q : ℕ) → q < h → (b : Bool) → nat_le from q ≡ b → cond b (fin.get m q) None ≡ None
        below q lt true le = is_some-false (fin.get m q) (is.none_below q (at_least le) lt)
          where
            at_least : nat_le from q ≡ true → from ≤ q
            at_least le = grind (arith, nat_tests)
        below q lt false le = refl

        at : (q : ℕ)
            → cond (nat_le from q) (fin.get m q) None ≡ cond (eqb q h) (Some v) (cond (nat_le (h + 1) q) (fin.get m q) None)
        at q =
            elim (cases_lt q h) [
              | inl lt ↦
                  below q lt (nat_le from q) refl
                  ∙
                  (λ i. cond (sym (eqb_other q h (λ same. omega (arith, lt, same))) i) (Some v) (cond (sym (le_no (h + 1) q (omega (arith, lt))) i) (fin.get m q) None))
              | inr ge ↦ elim (cases_eq q h) [
                | inl same ↦
                    (λ i. cond (le_yes from q (omega (arith, is.at_least, same)) i) ((ap (fin.get m) same ∙ found) i) None)
                    ∙ ap (λ b. cond b (Some v) (cond (nat_le (h + 1) q) (fin.get m q) None)) (sym (eqb_same q h same))
                | inr apart ↦
                    (λ i. cond (le_yes from q (omega (arith, is.at_least, ge)) i) (fin.get m q) None)
                    ∙
                    (λ i. cond (sym (eqb_other q h apart) i) (Some v) (cond (sym (le_yes (h + 1) q (omega (arith, ge, apart))) i) (fin.get m q) None))
              ]
            ]

    -- If no key from `from` on exists, no entries from it on are left.
    pub from_none : (from : ℕ) → ((k : ℕ) → from ≤ k → fin.contains_key m k ≡ false) → entries_from m from ≡ []
    from_none from none =
        same_entries nat_cmp nat_cmp_total nat_cmp-IsAntisymmetric _ [] (sorted_from from) tt
        (λ q. find_from from q ∙ at q (nat_le from q) refl)
      where
        at : (q : ℕ) (b : Bool) → nat_le from q ≡ b → cond b (fin.get m q) None ≡ None
        at q true le = is_some-false (fin.get m q) (none q (at_least le))
          where
            at_least : nat_le from q ≡ true → from ≤ q
            at_least le = grind (arith, nat_tests)
        at q false le = refl

    -- The entries from 0 on are all entries.
    pub from_zero : entries_from m 0 ≡ fin.entries m
    from_zero =
        same_entries nat_cmp nat_cmp_total nat_cmp-IsAntisymmetric _ (fin.entries m) (sorted_from 0) (fin.entries_sorted m) (λ q.
        find_from 0 q ∙ ap (λ b. cond b (fin.get m q) None) (le_yes 0 q (omega arith)) ∙ fin.get-entries m q)

    -- If all keys are `u32`, there are no entries past `u32`.
    pub from_past : (from : ℕ) → ((k : ℕ) → IsTrue (fin.contains_key m k) → k ≤ 4294967295) → 4294967295 < from
        → entries_from m from ≡ []
    from_past from bound past = from_none from (λ k le. outside k le (fin.contains_key m k) refl)
      where
        outside : (k : ℕ) → from ≤ k → (b : Bool) → fin.contains_key m k ≡ b → b ≡ false
        outside k le true there = absurd (omega (arith, bound k there, past, le))
        outside k le false there = refl

    -- The lowest key has a value.
    pub least_there : (from to h : ℕ) → IsLeast (fin.contains_key m) from to h → None ≡ fin.get m h → ⊥
    least_there from to h is none = some_there (fin.get m h) is.passes none

-- A place in the first of two lists is the same place in both together.
pub at_front : {Y : Type 0} (xs ys : List Y) (i : ℕ) (y : Y) → slice_get xs i ≡ Some y → slice_get (xs ++ ys) i ≡ Some y
at_front [] ys i y is = absurd (none-some y is)
at_front (x ∷ xs) ys zero y is = is
at_front (x ∷ xs) ys (suc i) y is = at_front xs ys i y is

-- A place past the front of two lists is a place in the second.
pub behind_front : {Y : Type 0} (xs ys : List Y) (i n : ℕ) → length xs ≡ n → n ≤ i
    → slice_get (xs ++ ys) i ≡ slice_get ys (i - n)
behind_front [] ys i n is le = let none : i ≡ i - n = omega (arith, is) in ap (slice_get ys) none
behind_front (x ∷ xs) ys zero n is le = absurd (omega (arith, is, le))
behind_front (x ∷ xs) ys (suc i) n is le =
    let less : i - (n - 1) ≡ suc i - n = omega (arith, is, le) in
    behind_front xs ys i (n - 1) (omega (arith, is)) (omega (arith, is, le)) ∙ ap (slice_get ys) less

-- An option that has a value is not `None`.
pub not_both : {Y : Type 0} (y : Option Y) → IsTrue (is_some y) → y ≡ None → ⊥
not_both None there none = absurd (false≢true there)
not_both (Some y) there none = false≢true (sym (ap is_some none))

-- A list of length 0 is empty.
pub no_length : {Y : Type 0} (ys : List Y) → length ys ≡ 0 → ys ≡ []
no_length [] e = refl
no_length (y ∷ ys) e = absurd (omega (arith, e))

-- Pairs of numbers that are found both ways, as pairs are added and removed, and their rows.
use Rattle.std.proofs.Common.{◌≡◌, ℕ, ◌<◌, ◌==◌, eqb, Bool, true, false, not, cond, find, filter, map, List, Option, Some, None, option_map, refl, sym, ap, ◌∙◌, arith, eq-eqb, nat_cmp}
use Rattle.std.specs.FinMap as fin
use Rattle.std.proofs.lemmas.Bool.{eqb-true, eqb-false, ne_eqb}
use Rattle.std.proofs.lemmas.Option.{none-some, same_Some}
use Rattle.drm_index_array.proofs.Lists.{filter_all, filter-same, all_weaker}
use Rattle.drm_index_array.proofs.FoundInLists.{none_found as found_none}
use Rattle.drm_index_array.proofs.MarkedLemmas.{get-insert, get-remove}
use Rattle.drm_id_alloc.specs.BothWays.{AreBothWays}
use Rattle.drm_id_alloc.proofs.NumberTable.{rows_removed, rows_all, none_found, first_found}

abbrev Numbers : Type 0
Numbers = fin.FinMap nat_cmp ℕ

-- Two empty maps lead to each other both ways.
pub none_both : (there back : Numbers) → there ≡ fin.empty → back ≡ fin.empty → AreBothWays there back
none_both there back none nobody = record {
  named = λ n k at. absurd (none-some k (sym (ap (λ m. fin.get m n) none ∙ fin.get-empty nat_cmp n) ∙ at));
  given = λ k n at. absurd (none-some n (sym (ap (λ m. fin.get m k) nobody ∙ fin.get-empty nat_cmp k) ∙ at));
}

module _ (there back : Numbers) (ways : AreBothWays there back) where
  -- Two numbers paired with the same number are equal.
  pub one_each : (a b k : ℕ) → fin.get there a ≡ Some k → fin.get there b ≡ Some k → a ≡ b
  one_each a b k at_a at_b = same_Some a b (sym (ways.named a k at_a) ∙ ways.named b k at_b)

  -- After a pair of free numbers is added both ways, the maps still lead to each other.
  pub one_more : (n k : ℕ) → fin.get back k ≡ None → fin.get there n ≡ None
      → AreBothWays (fin.insert there n k) (fin.insert back k n)
  one_more n k unnamed free = record {
    named =
        λ a j at. get-insert back k n j ∙ to_name a j (eqb a n) (eqb j k) refl refl (sym (get-insert there n k a) ∙ at);
    given =
        λ j a at. get-insert there n k a
        ∙ to_object a j (eqb a n) (eqb j k) refl refl (sym (get-insert back k n j) ∙ at);
  }
    where
      to_name : (a j : ℕ) (p q : Bool) → eqb a n ≡ p → eqb j k ≡ q → cond p (Some k) (fin.get there a) ≡ Some j
          → cond q (Some n) (fin.get back j) ≡ Some a
      to_name a j true true is_n is_k at = ap (λ x. Some x) (sym (eqb-true a n is_n))
      to_name a j true false is_n other at = absurd (eqb-false j k other (sym (same_Some k j at)))
      to_name a j false true other is_k at =
          absurd (none-some a (sym unnamed ∙ ap (fin.get back) (sym (eqb-true j k is_k)) ∙ ways.named a j at))
      to_name a j false false other_n other_k at = ways.named a j at

      to_object : (a j : ℕ) (p q : Bool) → eqb a n ≡ p → eqb j k ≡ q → cond q (Some n) (fin.get back j) ≡ Some a
          → cond p (Some k) (fin.get there a) ≡ Some j
      to_object a j true true is_n is_k at = ap (λ x. Some x) (sym (eqb-true j k is_k))
      to_object a j false true other is_k at = absurd (eqb-false a n other (sym (same_Some n a at)))
      to_object a j true false is_n other at =
          absurd (none-some j (sym free ∙ ap (fin.get there) (sym (eqb-true a n is_n)) ∙ ways.given j a at))
      to_object a j false false other_n other_k at = ways.given j a at

  -- After a pair is removed both ways, the maps still lead to each other.
  pub one_less : (n k : ℕ) → fin.get back k ≡ Some n → AreBothWays (fin.remove there n) (fin.remove back k)
  one_less n k is = record {
    named = λ a j at. get-remove back k j ∙ to_name a j (eqb a n) (eqb j k) refl refl (sym (get-remove there n a) ∙ at);
    given =
        λ j a at. get-remove there n a ∙ to_object a j (eqb a n) (eqb j k) refl refl (sym (get-remove back k j) ∙ at);
  }
    where
      to_name : (a j : ℕ) (p q : Bool) → eqb a n ≡ p → eqb j k ≡ q → cond p None (fin.get there a) ≡ Some j
          → cond q None (fin.get back j) ≡ Some a
      to_name a j true q is_n r at = absurd (none-some j at)
      to_name a j false true other is_k at =
          absurd
          (eqb-false a n other (same_Some a n (sym (ways.named a j at) ∙ ap (fin.get back) (eqb-true j k is_k) ∙ is)))
      to_name a j false false other_n other_k at = ways.named a j at

      to_object : (a j : ℕ) (p q : Bool) → eqb a n ≡ p → eqb j k ≡ q → cond q None (fin.get back j) ≡ Some a
          → cond p None (fin.get there a) ≡ Some j
      to_object a j p true r is_k at = absurd (none-some a at)
      to_object a j true false is_n other at =
          absurd
          (eqb-false j k other (same_Some j k (sym (ways.given j a at) ∙ ap (fin.get there) (eqb-true a n is_n) ∙ ways.given k n is)))
      to_object a j false false other_n other_k at = ways.given j a at

  -- the rows, of which one is of a number by its second field
  module _ {Y : Type 0} (row : ℕ × ℕ → Y) (first : Y → ℕ) (is_first : (e : ℕ × ℕ) → first (row e) ≡ e.0) (is_of : ℕ → Y → Bool) (is_second : (k : ℕ) (e : ℕ × ℕ) → is_of k (row e) ≡ (e.1 == k)) where
    abbrev rows : List Y
    rows = map row (fin.entries there)

    -- A number without a pair has no row.
    pub nobody : (k : ℕ) → fin.get back k ≡ None → find (is_of k) rows ≡ None
    nobody k none =
        none_found row there (is_of k)
        (λ a v at. is_second k (a, v) ∙ ne_eqb v k (λ same. none-some a (sym none ∙ ways.named a k (at ∙ ap (λ j. Some j) same))))

    -- The number paired with another is that of the row found by it.
    pub number_is : (k : ℕ) → fin.get back k ≡ option_map first (find (is_of k) rows)
    number_is k = by_cases (fin.get back k) refl
      where
        by_cases : (x : Option ℕ) → fin.get back k ≡ x → x ≡ option_map first (find (is_of k) rows)
        by_cases None is = ap (option_map first) (sym (nobody k is))
        by_cases (Some n) is =
            ap (λ i. Some i) (sym (is_first (n, k)))
            ∙ ap (option_map first)
            (sym (first_found row there (is_of k) n k (ways.given k n is) (is_second k (n, k) ∙ eq-eqb k k refl) (λ a v less at. is_second k (a, v) ∙ ne_eqb v k (λ same. omega (arith, less, one_each a n k (at ∙ ap (λ j. Some j) same) (ways.given k n is))))))

    -- The rows after a pair is removed are those without the row of its number.
    pub forgotten : (n k : ℕ) → fin.get back k ≡ Some n
        → map row (fin.entries (fin.remove there n)) ≡ filter (λ y. not (is_of k y)) rows
    forgotten n k is =
        rows_removed row first is_first there n
        ∙ filter-same (λ y. not (first y == n)) (λ y. not (is_of k y)) rows
        (rows_all row there (λ y. not (first y == n) ≡ not (is_of k y)) (λ a v at. ap not (ap (λ i. i == n) (is_first (a, v)) ∙ agree a v at (eqb a n) refl ∙ sym (is_second k (a, v)))))
      where
        agree : (a v : ℕ) → fin.get there a ≡ Some v → (b : Bool) → eqb a n ≡ b → (a == n) ≡ (v == k)
        agree a v at true same =
            same
            ∙ sym (eq-eqb v k (same_Some v k (sym at ∙ ap (fin.get there) (eqb-true a n same) ∙ ways.given k n is)))
        agree a v at false other =
            other
            ∙ sym
            (ne_eqb v k (λ same. eqb-false a n other (one_each a n k (at ∙ ap (λ j. Some j) same) (ways.given k n is))))

    -- If a number belongs to no other, removing the rows with it changes nothing.
    pub none_forgotten : (k : ℕ) → fin.get back k ≡ None → filter (λ y. not (is_of k y)) rows ≡ rows
    none_forgotten k none =
        let others = found_none (is_of k) rows (nobody k none) in
        filter_all (λ y. not (is_of k y)) rows
        (all_weaker (λ y. is_of k y ≡ false) (λ y. not (is_of k y) ≡ true) (λ y other. ap not other) rows others)

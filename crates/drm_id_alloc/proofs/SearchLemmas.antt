-- Where the search for the lowest free number of a table may start.
use Rattle.std.proofs.Common.{◌≡◌, ℕ, ◌+◌, ◌<◌, ◌≤◌, Bool, true, false, not, cond, eqb, Option, Some, None, is_some, MatchOption, IsTrue, refl, sym, ap, subst, ◌∙◌, inl, inr, arith}
use Rattle.std.specs.Ordering.{nat_cmp}
use Rattle.std.specs.FinMap as map
use Rattle.std.proofs.lemmas.Bool.{cases_eq, cases_lt, false≢true}
use Rattle.std.proofs.lemmas.Bool.Decides.{nat_tests}
use Rattle.drm_index_array.proofs.MarkedLemmas.{get-insert, get-remove}
use Rattle.drm_index_array.specs.Least.{least, NonePasses, IsLeast}
use Rattle.drm_index_array.proofs.Least.{least_is, least_some, least_cases, least_by_cases}
use Rattle.drm_id_alloc.specs.Table.{AreUsedBelow}

module _ {X : Type 0} (m : map.FinMap nat_cmp X) where
  abbrev free : ℕ → Bool
  free k = not (map.contains_key m k)

  -- A free number at the start of a range is the lowest free one of the range.
  pub free_at_start : (from last : ℕ) → from ≤ last → is_some (map.get m from) ≡ false
      → Some from ≡ least free from last
  free_at_start from last high none =
      sym
      (least_is free from last from (record { at_least = omega arith; at_most = high; passes = ap not none; none_below = λ k low below. absurd (omega (arith, low, below)) }))

  module _ (first start last : ℕ) (low : first ≤ start) (used : AreUsedBelow m first start) where
    -- no number is free below the start
    none_below_start : (k : ℕ) → first ≤ k → k < start → free k ≡ false
    none_below_start k at_least below = ap not (used k at_least below)

    -- The lowest free number of a range is the lowest one from the start on.
    pub lowest_from_start : (r : Option ℕ) → r ≡ least free start last → r ≡ least free first last
    lowest_from_start r is =
        is
        ∙ least_by_cases free first last (least free start last) (elim (least free start last) as (λ o. MatchOption o (NonePasses free start last) (IsLeast free start last) → MatchOption o (NonePasses free first last) (IsLeast free first last)) [
          | None ↦ λ none k at_least at_most. elim (cases_lt k start) [
            | inl below ↦ none_below_start k at_least below
            | inr above ↦ none k above at_most
          ]
          | Some n ↦ λ found. record {
            at_least = omega (arith, low, found.at_least);
            at_most = found.at_most;
            passes = found.passes;
            none_below = λ k at_least below. elim (cases_lt k start) [
              | inl under ↦ none_below_start k at_least under
              | inr above ↦ found.none_below k above below
            ];
          }
        ] (least_cases free start last))

  module _ (first : ℕ) (id : ℕ) (v : X) where
    there_after : (k : ℕ) → IsTrue (map.contains_key m k) → IsTrue (map.contains_key (map.insert m id v) k)
    there_after k there = elim (cases_eq k id) [
      | inl same ↦ let gets = get-insert m id v k in let test : eqb k id ≡ true = grind (arith, nat_tests) in ap is_some gets ∙ ap (λ b. is_some (cond b (Some v) (map.get m k))) test
      | inr apart ↦ let gets = get-insert m id v k in let test : eqb k id ≡ false = grind (arith, nat_tests) in ap is_some gets ∙ ap (λ b. is_some (cond b (Some v) (map.get m k))) test ∙ there
    ]

    it_is_there : IsTrue (map.contains_key (map.insert m id v) id)
    it_is_there =
        let gets = get-insert m id v id in
        let test : eqb id id ≡ true = grind (arith, nat_tests) in
        ap is_some gets ∙ ap (λ b. is_some (cond b (Some v) (map.get m id))) test

    -- The numbers that are in use stay so after an entry is added.
    pub used_more : (end : ℕ) → AreUsedBelow m first end → AreUsedBelow (map.insert m id v) first end
    used_more end used = λ k low below. there_after k (used k low below)

    -- After the lowest free number of a range got an entry, the numbers up to it are in use.
    pub used_up_to : (last end : ℕ) → least free first last ≡ Some id → end ≤ id + 1
        → AreUsedBelow (map.insert m id v) first end
    used_up_to last end is few = λ k low below. elim (cases_eq k id) [
      | inl same ↦ subst (λ q. IsTrue (map.contains_key (map.insert m id v) q)) (sym same) it_is_there
      | inr apart ↦ there_after k (in_use k (least_some free first last id is).none_below low (omega (arith, below, few, apart)))
    ]
      where
        in_use : (k : ℕ) → ((q : ℕ) → first ≤ q → q < id → free q ≡ false) → first ≤ k → k < id
            → IsTrue (map.contains_key m k)
        in_use k none low below = not_false (map.contains_key m k) (none k low below)
          where
            not_false : (b : Bool) → not b ≡ false → b ≡ true
            not_false true e = refl
            not_false false e = absurd (false≢true (sym e))

  -- The numbers below a removed one stay in use.
  pub used_fewer : (first id end : ℕ) → AreUsedBelow m first end → end ≤ id → AreUsedBelow (map.remove m id) first end
  used_fewer first id end used le = λ k low below.
      let gets = get-remove m id k in
      let test : eqb k id ≡ false = grind (arith, nat_tests, below, le) in
      ap is_some gets ∙ ap (λ b. is_some (cond b None (map.get m k))) test ∙ used k low below

-- How the entries of a table stay within its range.
use Rattle.std.proofs.Common.{◌≡◌, ℕ, ◌+◌, ◌<◌, ◌≤◌, Bool, true, false, not, cond, eqb, Option, Some, None, is_some, IsTrue, refl, sym, ap, ◌∙◌, inl, inr, arith}
use Rattle.std.specs.Ordering.{nat_cmp}
use Rattle.std.specs.FinMap as map
use Rattle.std.proofs.lemmas.Bool.{cases_eq, false≢true, eqb-true}
use Rattle.std.proofs.lemmas.Bool.Decides.{nat_tests}
use Rattle.drm_index_array.proofs.MarkedLemmas.{get-insert, get-remove, same_by_gets}
use Rattle.drm_index_array.specs.Least.{least}
use Rattle.drm_index_array.proofs.Least.{least_is, least_is_none, least_some, least_none}
use Rattle.drm_id_alloc.specs.Table.{Table, IsWithin, is_free, least_free, next_cyclic, with_entry, without_entry}

-- a number that exists after an insertion is the new one, or was there
contains-insert : {X : Type 0} (m : map.FinMap nat_cmp X) (k : ℕ) (v : X) (q : ℕ) → (q ≡ k → ⊥)
    → IsTrue (map.contains_key (map.insert m k v) q) → IsTrue (map.contains_key m q)
contains-insert m k v q apart there =
    let gets = get-insert m k v q in
    let test : eqb q k ≡ false = grind (arith, nat_tests) in
    rw (gets, test) at there

contains-remove : {X : Type 0} (m : map.FinMap nat_cmp X) (k q : ℕ) → IsTrue (map.contains_key (map.remove m k) q)
    → IsTrue (map.contains_key m q)
contains-remove m k q there =
    elim (cases_eq q k) [
      | inl same ↦ let gets = get-remove m k q in let test : eqb q k ≡ true = grind (arith, nat_tests) in absurd (false≢true (rw (gets, test) at there))
      | inr apart ↦ let gets = get-remove m k q in let test : eqb q k ≡ false = grind (arith, nat_tests) in rw (gets, test) at there
    ]

module _ {X : Type 0} (m : map.FinMap nat_cmp X) (first last : ℕ) (given : Option ℕ) (within : IsWithin m first last given) where
  -- A table stays within its range after an entry within the range is added.
  pub IsWithin-insert : (k : ℕ) (v : X) → first ≤ k → k ≤ last → IsWithin (map.insert m k v) first last given
  IsWithin-insert k v low high = record {
    in_order = within.in_order;
    fits = within.fits;
    low =
        λ id there. elim (cases_eq id k)
        [ inl same ↦ omega arith | inr apart ↦ within.low id (contains-insert m k v id apart there) ];
    high =
        λ id there. elim (cases_eq id k)
        [ inl same ↦ omega arith | inr apart ↦ within.high id (contains-insert m k v id apart there) ];
    given_low = within.given_low;
    given_high = within.given_high;
  }

  -- A table stays within its range after an entry is removed.
  pub IsWithin-remove : (k : ℕ) → IsWithin (map.remove m k) first last given
  IsWithin-remove k = record {
    in_order = within.in_order;
    fits = within.fits;
    low = λ id there. within.low id (contains-remove m k id there);
    high = λ id there. within.high id (contains-remove m k id there);
    given_low = within.given_low;
    given_high = within.given_high;
  }

-- An empty table is within its range.
pub IsWithin-empty : {X : Type 0} (first last : ℕ) → first ≤ last → last ≤ 4294967295
    → IsWithin (map.empty {X = X}) first last None
IsWithin-empty {X = X} first last le fits = record {
  in_order = le;
  fits = fits;
  low = λ id there. absurd (none id there);
  high = λ id there. absurd (none id there);
  given_low = tt;
  given_high = tt;
}
  where
    none : (id : ℕ) → IsTrue (map.contains_key (map.empty {X = X} {R = nat_cmp}) id) → ⊥
    none id there = false≢true (rw (map.get-empty nat_cmp id) at there)

-- A new entry that is removed again leaves the table unchanged.
pub taken_back : {X : Type 0} (t : Table X) (n : ℕ) (v : X) → map.get t.slots n ≡ None
    → without_entry (with_entry t n v) n ≡ t
taken_back t n v none = λ i. record t { slots = same_by_gets (map.remove (map.insert t.slots n v) n) t.slots at i }
  where
    inside : (q : ℕ) (b : Bool) → eqb q n ≡ b → cond b None (cond b (Some v) (map.get t.slots q)) ≡ map.get t.slots q
    inside q true same = sym none ∙ ap (map.get t.slots) (sym (eqb-true q n same))
    inside q false other = refl

    at : (q : ℕ) → map.get (map.remove (map.insert t.slots n v) n) q ≡ map.get t.slots q
    at q =
        get-remove (map.insert t.slots n v) n q ∙ ap (cond (eqb q n) None) (get-insert t.slots n v q)
        ∙ inside q (eqb q n) refl

-- what a search past the end of the range says of the range
module _ (p : ℕ → Bool) (from last to : ℕ) (le : last ≤ to) where
  -- If nothing is found in a range, nothing is found in a part of it from the same start.
  pub none_within : None ≡ least p from to → None ≡ least p from last
  none_within none = sym (least_is_none p from last (λ k low high. least_none p from to (sym none) k low (omega arith)))

  module _ (id : ℕ) (found : Some id ≡ least p from to) where
    -- If the lowest number found is past `last`, nothing is found up to `last`.
    pub past_within : last < id → None ≡ least p from last
    past_within past = let is = least_some p from to id (sym found) in sym (least_is_none p from last (λ k low high. is.none_below k low (omega arith)))

    -- If the lowest number found is at most `last`, it is found up to `last`.
    pub some_within : id ≤ last → Some id ≡ least p from last
    some_within high =
        let is = least_some p from to id (sym found) in
        sym
        (least_is p from last id (record { at_least = is.at_least; at_most = high; passes = is.passes; none_below = is.none_below }))

    -- The number found is at least the start of the range.
    pub found_low : from ≤ id
    found_low = (least_some p from to id (sym found)).at_least

-- A free number has no value.
pub fresh_of : {X : Type 0} (m : map.FinMap nat_cmp X) (from to id : ℕ)
    → Some id ≡ least (λ k. not (map.contains_key m k)) from to → map.get m id ≡ None
fresh_of m from to id found = is_none (map.get m id) (least_some _ from to id (sym found)).passes
  where
    is_none : {Y : Type 0} (o : Option Y) → not (is_some o) ≡ true → o ≡ None
    is_none None e = refl
    is_none (Some y) e = absurd (false≢true e)

-- After the last number of the range, the next one in rotation is the lowest free one.
pub next_cyclic_wraps : {X : Type 0} (t : Table X) (given : ℕ) → t.last_given ≡ Some given → t.last ≤ given
    → next_cyclic t ≡ least_free t
next_cyclic_wraps t given is le =
    rw (is, least_is_none (is_free t) (given + 1) t.last (λ k low high. absurd (omega arith))) refl

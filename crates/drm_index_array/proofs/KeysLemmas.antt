-- How the keys from a number on are found one after another.
use Rattle.std.proofs.Common.{◌≡◌, ℕ, suc, ◌+◌, ◌-◌, ◌<◌, ◌≤◌, true, false, cond, leb, T, List, [], ◌∷◌, map as list_map, filter, take, Some, None, is_some, IsTrue, refl, sym, ap, ◌∙◌, inl, inr, arith}
use Rattle.std.specs.Ordering.{nat_cmp, eq_by_cmp, is_lt}
use Rattle.std.specs.FinMap as map
use Rattle.std.specs.FinMap.Entries.{find, is_sorted, below_all}
use Rattle.std.proofs.Math.Seq.{take-nil}
use Rattle.std.proofs.lemmas.Bool.{cases_lt, cases_eq, false≢true, false_from_ne_true}
use Rattle.std.proofs.lemmas.Bool.Decides.{nat_tests}
use Rattle.drm_index_array.specs.Least.{least, IsLeast}
use Rattle.drm_index_array.specs.Keys.{keys_from}
use Rattle.drm_index_array.proofs.Least.{least_some}
use Rattle.drm_index_array.proofs.RowsByKey.{left, right}

abbrev from_on : {X : Type 0} → List (ℕ × X) → ℕ → List ℕ
from_on es from = filter (λ k. leb from k) (list_map (λ e. e.0) es)

leb_yes : (a b : ℕ) → a ≤ b → leb a b ≡ true
leb_yes a b le = grind (arith, nat_tests)

leb_no : (a b : ℕ) → b < a → leb a b ≡ false
leb_no a b lt = grind (arith, nat_tests)

is_less : (x y : ℕ) → T (is_lt (nat_cmp x y)) → x < y
is_less x y h = grind (arith, nat_tests)

same_key : (k : ℕ) → eq_by_cmp nat_cmp k k ≡ true
same_key k = grind (arith, nat_tests)

other_key : (q k : ℕ) → (q ≡ k → ⊥) → eq_by_cmp nat_cmp q k ≡ false
other_key q k apart = grind (arith, nat_tests)

module _ {X : Type 0} where
  -- where each key is above x, a number up to x + 1 keeps them all
  all_kept : (x : ℕ) (es : List (ℕ × X)) → T (below_all nat_cmp x es) → (a : ℕ) → a ≤ x + 1
      → from_on es a ≡ list_map (λ e. e.0) es
  all_kept x [] h a le = refl
  all_kept x (e ∷ es) h a le =
      let above = is_less x e.0 (left _ _ h) in
      rw (leb_yes a e.0 (omega arith)) (ap (λ l. e.0 ∷ l) (all_kept x es (right _ _ h) a le))

  not_below : (x : ℕ) (es : List (ℕ × X)) → T (below_all nat_cmp x es) → (q : ℕ) → q ≤ x → find nat_cmp q es ≡ None
  not_below x [] h q le = refl
  not_below x (e ∷ es) h q le =
      let above = is_less x e.0 (left _ _ h) in
      rw (other_key q e.0 (λ same. omega arith)) (not_below x es (right _ _ h) q le)

  next_key : (es : List (ℕ × X)) → T (is_sorted nat_cmp es) → (from h : ℕ) → from ≤ h
      → is_some (find nat_cmp h es) ≡ true → ((k : ℕ) → from ≤ k → k < h → is_some (find nat_cmp k es) ≡ false)
      → from_on es from ≡ h ∷ from_on es (h + 1)
  next_key [] sorted from h ge some none = absurd (false≢true some)
  next_key (e ∷ es) sorted from h ge some none =
      elim (cases_lt e.0 from) [
        | inl below ↦
            let skip : (k : ℕ) → from ≤ k → find nat_cmp k (e ∷ es) ≡ find nat_cmp k es =
            λ k low. ap (λ b. cond b (Some e.1) (find nat_cmp k es)) (other_key k e.0 (λ same. omega arith)) in
            rw (leb_no from e.0 below, leb_no (h + 1) e.0 (omega arith))
            (next_key es (right _ _ sorted) from h ge (ap is_some (sym (skip h ge)) ∙ some) (λ k low lt. ap is_some (sym (skip k low)) ∙ none k low lt))
        | inr at_least ↦
            let here : e.0 ≡ h = elim (cases_lt e.0 h) [
              | inl before ↦ absurd (false≢true (sym (none e.0 at_least before) ∙ ap (λ b. is_some (cond b (Some e.1) (find nat_cmp e.0 es))) (same_key e.0)))
              | inr after ↦ elim (cases_eq e.0 h) [
                | inl same ↦ same
                | inr apart ↦ absurd (false≢true (sym (ap (λ b. is_some (cond b (Some e.1) (find nat_cmp h es))) (other_key h e.0 (λ same. apart (sym same))) ∙ ap is_some (not_below e.0 es (left _ _ sorted) h after)) ∙ some))
              ]
            ] in
            rw (leb_yes from e.0 at_least, leb_no (h + 1) e.0 (omega arith), here)
            (ap (λ l. h ∷ l) (all_kept e.0 es (left _ _ sorted) from (omega arith) ∙ sym (all_kept e.0 es (left _ _ sorted) (h + 1) (omega arith))))
      ]

  no_key : (es : List (ℕ × X)) (from : ℕ) → ((k : ℕ) → from ≤ k → is_some (find nat_cmp k es) ≡ false)
      → T (is_sorted nat_cmp es) → from_on es from ≡ []
  no_key [] from none sorted = refl
  no_key (e ∷ es) from none sorted =
      elim (cases_lt e.0 from) [
        | inl below ↦
            rw (leb_no from e.0 below)
            (no_key es from (λ k low. ap (λ b. is_some (cond b (Some e.1) (find nat_cmp k es))) (sym (other_key k e.0 (λ same. omega arith))) ∙ none k low) (right _ _ sorted))
        | inr at_least ↦ absurd (false≢true (sym (none e.0 at_least) ∙ ap (λ b. is_some (cond b (Some e.1) (find nat_cmp e.0 es))) (same_key e.0)))
      ]

-- a number that is no key makes no difference
skip_key : {X : Type 0} (es : List (ℕ × X)) (from : ℕ) → is_some (find nat_cmp from es) ≡ false
    → from_on es from ≡ from_on es (from + 1)
skip_key [] from none = refl
skip_key (e ∷ es) from none =
    elim (cases_eq from e.0) [
      | inl same ↦
          let tied : eq_by_cmp nat_cmp from e.0 ≡ true = rw same (same_key e.0) in
          absurd (false≢true (sym none ∙ ap (λ b. is_some (cond b (Some e.1) (find nat_cmp from es))) tied))
      | inr apart ↦
          let rest =
          skip_key es from
          (ap (λ b. is_some (cond b (Some e.1) (find nat_cmp from es))) (sym (other_key from e.0 apart)) ∙ none) in
          elim (cases_lt e.0 from) [
            | inl below ↦ rw (leb_no from e.0 below, leb_no (from + 1) e.0 (omega arith)) rest
            | inr above ↦ rw (leb_yes from e.0 above, leb_yes (from + 1) e.0 (omega arith)) (ap (λ l. e.0 ∷ l) rest)
          ]
    ]

from_zero : (ks : List ℕ) → filter (λ k. leb 0 k) ks ≡ ks
from_zero [] = refl
from_zero (k ∷ ks) = rw (leb_yes 0 k (omega arith)) (ap (λ l. k ∷ l) (from_zero ks))

-- The keys from 0 on are all keys.
pub keys_from-zero : {X : Type 0} (m : map.FinMap nat_cmp X) → keys_from m 0 ≡ map.keys m
keys_from-zero m = from_zero (map.keys m)

-- If a number is not a key, the keys from it on are those from the next number on.
pub keys_from-skip : {X : Type 0} (m : map.FinMap nat_cmp X) (from : ℕ) → map.contains_key m from ≡ false
    → keys_from m from ≡ keys_from m (from + 1)
keys_from-skip m from none = skip_key (map.entries m) from (ap is_some (sym (map.get-entries m from)) ∙ none)

-- The keys from a number on are the lowest of them and the keys after it.
pub keys_from-least : {X : Type 0} (m : map.FinMap nat_cmp X) (from to h : ℕ) → IsLeast (map.contains_key m) from to h
    → keys_from m from ≡ h ∷ keys_from m (h + 1)
keys_from-least m from to h is =
    next_key (map.entries m) (map.entries_sorted m) from h is.at_least
    (ap is_some (sym (map.get-entries m h)) ∙ is.passes)
    (λ k low lt. ap is_some (sym (map.get-entries m k)) ∙ is.none_below k low lt)

-- If no number from `from` on is a key, there are no keys from `from` on.
pub keys_from-none : {X : Type 0} (m : map.FinMap nat_cmp X) (from : ℕ)
    → ((k : ℕ) → from ≤ k → map.contains_key m k ≡ false) → keys_from m from ≡ []
keys_from-none m from none =
    no_key (map.entries m) from (λ k low. ap is_some (sym (map.get-entries m k)) ∙ none k low) (map.entries_sorted m)

-- a listing of at most this many keys: what is still needed after i turns
module _ {X : Type 0} (m : map.FinMap nat_cmp X) where
  -- If h is the lowest key from `from` on, a page of the keys is h and the keys after it.
  pub take_next : (size from h i : ℕ) → i < size → Some h ≡ least (map.contains_key m) from 4294967295
      → take (size - i) (keys_from m from) ≡ h ∷ take (size - (i + 1)) (keys_from m (h + 1))
  take_next size from h i lt some =
      let n : size - i ≡ suc (size - (i + 1)) = omega arith in
      rw (n, keys_from-least m from 4294967295 h (least_some _ from 4294967295 h (sym some))) refl

  -- If no number from `from` on is a key, a page of the keys from there is empty.
  pub take_none : (from n : ℕ) → ((k : ℕ) → from ≤ k → map.contains_key m k ≡ false) → take n (keys_from m from) ≡ []
  take_none from n none = ap (take n) (keys_from-none m from none) ∙ take-nil n

  -- If all keys are `u32`, there are no keys past `u32`.
  pub take_past : (from n : ℕ) → ((k : ℕ) → IsTrue (map.contains_key m k) → k ≤ 4294967295) → 4294967295 < from
      → take n (keys_from m from) ≡ []
  take_past from n bound past = take_none from n (λ k ge. false_from_ne_true _ (λ there. omega (arith, bound k there)))

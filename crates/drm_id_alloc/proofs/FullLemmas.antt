-- A table is full exactly if it has as many entries as its range has numbers.
use Rattle.std.proofs.Common.{◌≡◌, ℕ, zero, suc, ◌+◌, ◌-◌, ◌<◌, ◌≤◌, ◌↔◌, Bool, true, false, not, length, Option, None, refl, sym, ap, ◌∙◌, inl, inr, arith}
use Rattle.std.specs.Ordering.{nat_cmp}
use Rattle.std.specs.FinMap as map
use Rattle.std.proofs.lemmas.Bool.{cases_eq, false_from_ne_true}
use Rattle.std.proofs.lemmas.List.{length-map}
use Rattle.drm_index_array.specs.Keys.{keys_from}
use Rattle.drm_index_array.specs.Least.{least}
use Rattle.drm_index_array.proofs.KeysLemmas.{keys_from-least, keys_from-none, keys_from-skip, keys_from-zero}
use Rattle.drm_index_array.proofs.Least.{least_is_none, least_none}
use Rattle.drm_id_alloc.specs.Table.{IsWithin}

not_false : (b : Bool) → not b ≡ false → b ≡ true
not_false true e = refl
not_false false e = sym e

module _ {X : Type 0} (m : map.FinMap nat_cmp X) where
  abbrev there : ℕ → Bool
  there k = map.contains_key m k

  key_here : (from : ℕ) → there from ≡ true → length (keys_from m from) ≡ suc (length (keys_from m (from + 1)))
  key_here from passes =
      ap length
      (keys_from-least m from from from (record { at_least = omega arith; at_most = omega arith; passes = passes; none_below = λ k ge lt. absurd (omega arith) }))

  -- a range has at most as many keys as numbers
  keys_few : (n from : ℕ) → ((k : ℕ) → from + n ≤ k → there k ≡ false) → length (keys_from m from) ≤ n
  keys_few zero from past = omega (arith, ap length (keys_from-none m from (λ k le. past k (omega arith))))
  keys_few (suc n) from past =
      let later = keys_few n (from + 1) (λ k le. past k (omega arith)) in
      elim (there from) as (λ b. there from ≡ b → length (keys_from m from) ≤ suc n) [
        | true ↦ λ here. omega (arith, later, key_here from here)
        | false ↦ λ here. omega (arith, later, ap length (keys_from-skip m from here))
      ] refl

  -- if a range has as many keys as numbers, each number is a key
  all_keys : (n from : ℕ) → ((k : ℕ) → from + n ≤ k → there k ≡ false) → n ≤ length (keys_from m from)
      → (k : ℕ) → from ≤ k → k < from + n → there k ≡ true
  all_keys zero from past many k ge lt = absurd (omega arith)
  all_keys (suc n) from past many k ge lt =
      let past_later : (q : ℕ) → from + 1 + n ≤ q → there q ≡ false = λ q le. past q (omega arith) in
      elim (there from) as (λ b. there from ≡ b → there k ≡ true) [
        | true ↦ λ here. elim (cases_eq k from) [
          | inl same ↦ ap there same ∙ here
          | inr apart ↦ all_keys n (from + 1) past_later (omega (arith, many, key_here from here)) k (omega arith) (omega arith)
        ]
        | false ↦ λ here. absurd (omega (arith, many, ap length (keys_from-skip m from here), keys_few n (from + 1) past_later))
      ] refl

  -- if each number of a range is a key, there are as many keys
  keys_many : (n from : ℕ) → ((k : ℕ) → from ≤ k → k < from + n → there k ≡ true) → n ≤ length (keys_from m from)
  keys_many zero from all = omega arith
  keys_many (suc n) from all =
      omega
      (arith, key_here from (all from (omega arith) (omega arith)), keys_many n (from + 1) (λ k ge lt. all k (omega arith) (omega arith)))

  -- if no number below the range is a key, the keys from its start on are all keys
  keys_counted : (from : ℕ) → ((k : ℕ) → k < from → there k ≡ false) → length (keys_from m from) ≡ map.len m
  keys_counted zero below =
      ap length (keys_from-zero m) ∙ length-map (map.entries m) (λ e. e.0) ∙ sym (map.len-entries m)
  keys_counted (suc from) below =
      let next : suc from ≡ from + 1 = omega arith in
      ap (λ n. length (keys_from m n)) next ∙ ap length (sym (keys_from-skip m from (below from (omega arith))))
      ∙ keys_counted from (λ k lt. below k (omega arith))

  -- No number of the range is free if and only if there are more entries than the last number less the first.
  pub full_by_len : (first last : ℕ) (given : Option ℕ) → IsWithin m first last given
      → (last - first < map.len m) ↔ (least (λ k. not (there k)) first last ≡ None)
  full_by_len first last given within = (none_free, all_used)
    where
      n : ℕ
      n = last + 1 - first

      past : (k : ℕ) → first + n ≤ k → there k ≡ false
      past k ge = false_from_ne_true _ (λ used. omega (arith, ge, within.in_order, within.high k used))

      count : length (keys_from m first) ≡ map.len m
      count = keys_counted first (λ k lt. false_from_ne_true _ (λ used. omega (arith, lt, within.low k used)))

      none_free : last - first < map.len m → least (λ k. not (there k)) first last ≡ None
      none_free many =
          least_is_none _ first last
          (λ k ge le. ap not (all_keys n first past (omega (arith, many, count, within.in_order)) k ge (omega (arith, le))))

      all_used : least (λ k. not (there k)) first last ≡ None → last - first < map.len m
      all_used none =
          let many : n ≤ length (keys_from m first) =
          keys_many n first (λ k ge lt. not_false (there k) (least_none _ first last none k ge (omega (arith, lt)))) in
          omega (arith, many, count, within.in_order)

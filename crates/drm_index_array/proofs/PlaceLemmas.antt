-- How many numbers of a range pass, and where a key is among the keys.
use Rattle.std.proofs.Common.{◌≡◌, ℕ, zero, suc, ◌+◌, ◌<◌, ◌≤◌, Bool, true, false, cond, ◌∷◌, length, Option, Some, None, refl, sym, ap, ◌∙◌, arith}
use Rattle.std.specs.List.{slice_get}
use Rattle.std.specs.Ordering.{nat_cmp}
use Rattle.std.specs.FinMap as map
use Rattle.std.proofs.lemmas.List.{length-map}
use Rattle.std.proofs.lemmas.Option.{slice_get_past}
use Rattle.drm_index_array.specs.Keys.{keys_from}
use Rattle.drm_index_array.specs.Position.{passing, IsPlaced}
use Rattle.drm_index_array.proofs.KeysLemmas.{keys_from-least, keys_from-none, keys_from-skip, keys_from-zero}

-- The numbers that pass in a range are those in its first part and those in its second.
pub passing-split : (p : ℕ → Bool) (from a b : ℕ) → passing p from (a + b) ≡ passing p from a + passing p (from + a) b
unfolding passing
passing-split p from zero b =
    let start : from + 0 ≡ from = omega arith in
    let count : 0 + b ≡ b = omega arith in
    rw (start, count) (omega arith)
passing-split p from (suc a) b =
    let count : suc a + b ≡ suc (a + b) = omega arith in
    let start : from + suc a ≡ from + 1 + a = omega arith in
    rw (count, start) (omega (arith, passing-split p (from + 1) a b))

-- Two ranges that test alike have as many numbers that pass.
pub passing-moved : (p q : ℕ → Bool) (a b n : ℕ) → ((r : ℕ) → r < n → p (a + r) ≡ q (b + r))
    → passing p a n ≡ passing q b n
unfolding passing
passing-moved p q a b zero same = refl
passing-moved p q a b (suc n) same =
    let left : a ≡ a + 0 = omega arith in
    let right : b + 0 ≡ b = omega arith in
    let here : p a ≡ q b = ap p left ∙ same 0 (omega arith) ∙ ap q right in
    let later : passing p (a + 1) n ≡ passing q (b + 1) n =
    passing-moved p q (a + 1) (b + 1) n
    (λ r lt. ap p (next a r) ∙ same (r + 1) (omega arith) ∙ sym (ap q (next b r))) in
    rw (here, later) refl
  where
    next : (a r : ℕ) → a + 1 + r ≡ a + (r + 1)
    next a r = omega arith

-- If no number of a range passes, 0 of them pass.
pub passing-none : (p : ℕ → Bool) (from n : ℕ) → ((r : ℕ) → r < n → p (from + r) ≡ false) → passing p from n ≡ 0
unfolding passing
passing-none p from zero none = refl
passing-none p from (suc n) none =
    let start : from ≡ from + 0 = omega arith in
    let here : p from ≡ false = ap p start ∙ none 0 (omega arith) in
    rw here (omega (arith, passing-none p (from + 1) n (λ r lt. ap p (next r) ∙ none (r + 1) (omega arith))))
  where
    next : (r : ℕ) → from + 1 + r ≡ from + (r + 1)
    next r = omega arith

-- If each number of a range passes, as many pass as there are.
pub passing-all : (p : ℕ → Bool) (from n : ℕ) → ((r : ℕ) → r < n → p (from + r) ≡ true) → passing p from n ≡ n
unfolding passing
passing-all p from zero all = refl
passing-all p from (suc n) all =
    let start : from ≡ from + 0 = omega arith in
    let here : p from ≡ true = ap p start ∙ all 0 (omega arith) in
    rw here (omega (arith, passing-all p (from + 1) n (λ r lt. ap p (next r) ∙ all (r + 1) (omega arith))))
  where
    next : (r : ℕ) → from + 1 + r ≡ from + (r + 1)
    next r = omega arith

module _ {X : Type 0} (m : map.FinMap nat_cmp X) where
  abbrev there : ℕ → Bool
  there k = map.contains_key m k

  key_here : (from : ℕ) → there from ≡ true → keys_from m from ≡ from ∷ keys_from m (from + 1)
  key_here from passes =
      keys_from-least m from from from
      (record { at_least = omega arith; at_most = omega arith; passes = passes; none_below = λ k ge lt. absurd (omega arith) })

  -- a key follows as many keys as there are below it
  key_at : (n from : ℕ) → there (from + n) ≡ true
      → slice_get (keys_from m from) (passing there from n) ≡ Some (from + n)
  unfolding passing
  key_at zero from passes =
      let start : from + 0 ≡ from = omega arith in
      rw (start, key_here from (rw start at passes)) refl
  key_at (suc n) from passes =
      let start : from + suc n ≡ from + 1 + n = omega arith in
      let later : slice_get (keys_from m (from + 1)) (passing there (from + 1) n) ≡ Some (from + suc n) =
      key_at n (from + 1) (rw start at passes) ∙ ap Some (sym start) in
      elim (there from) as (λ b. there from ≡ b → slice_get (keys_from m from) (cond b 1 0 + passing there (from + 1) n) ≡ Some (from + suc n)) [
        | true ↦ λ here. let more : 1 + passing there (from + 1) n ≡ suc (passing there (from + 1) n) = omega arith in rw (key_here from here, more) later
        | false ↦ λ here. let less : 0 + passing there (from + 1) n ≡ passing there (from + 1) n = omega arith in rw (keys_from-skip m from here, less) later
      ] refl

  keys_counted : (n from : ℕ) → ((k : ℕ) → from + n ≤ k → there k ≡ false)
      → length (keys_from m from) ≡ passing there from n
  unfolding passing
  keys_counted zero from past = ap length (keys_from-none m from (λ k le. past k (omega arith)))
  keys_counted (suc n) from past =
      let later = keys_counted n (from + 1) (λ k le. past k (omega arith)) in
      elim (there from) as (λ b. there from ≡ b → length (keys_from m from) ≡ cond b 1 0 + passing there (from + 1) n) [
        | true ↦ λ here. ap length (key_here from here) ∙ omega (arith, later)
        | false ↦ λ here. ap length (keys_from-skip m from here) ∙ omega (arith, later)
      ] refl

  module _ (end : ℕ) (past : (k : ℕ) → end ≤ k → there k ≡ false) where
    -- A map has as many entries as numbers below its end are keys.
    pub len_counted : map.len m ≡ passing there 0 end
    len_counted =
        map.len-entries m ∙ sym (length-map (map.entries m) (λ e. e.0)) ∙ ap length (sym (keys_from-zero m))
        ∙ keys_counted end 0 (λ k le. past k (omega arith))

    -- The number at a position among the numbers that are keys is the key at this position.
    pub key_placed : (position : ℕ) (r : Option ℕ) → IsPlaced there end position r → r ≡ slice_get (map.keys m) position
    key_placed position None few =
        sym
        (slice_get_past (map.keys m) position (omega (arith, few, len_counted, map.len-entries m, length-map (map.entries m) (λ e. e.0))))
    key_placed position (Some k) is =
        let start : 0 + k ≡ k = omega arith in
        sym
        (ap (λ ks. slice_get ks position) (sym (keys_from-zero m)) ∙ ap (slice_get (keys_from m 0)) (sym is.before) ∙ rw start at (key_at k 0 (rw start is.passes)))

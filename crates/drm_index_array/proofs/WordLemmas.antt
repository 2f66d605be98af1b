-- What the machine's operations on a word do to the places that it says.
use Rattle.std.proofs.Common.{◌≡◌, ℕ, ◌-◌, ◌*◌, ◌%◌, ◌^◌, ◌<◌, ◌≤◌, Bool, true, false, eqb, ◌==◌, if◌then◌else◌, not, bit_and, w64, Some, None, refl, sym, ap, ◌∙◌, inl, inr, arith}
use Rattle.std.specs.Int.{bit_at, trailing_zeros, bit_not}
use Rattle.std.specs.Int.RustNames.{bit_or}
use Rattle.std.proofs.lemmas.Bool.{cases_eq, cases_lt}
use Rattle.std.proofs.lemmas.Bool.Decides.{nat_tests}
use Rattle.std.proofs.lemmas.Nat.{and_le_l}
use Rattle.std.proofs.lemmas.Nat.Bits.{bit_at_and, bit_at-zero, bit_at-lt, bit_at_not, bit_at-trailing_zeros, bit_at_mask_inside, bit_at_mask_below, bit_at_set_same, bit_at_set_other, bit_at_clear_same, bit_at_clear_other}
use Rattle.drm_index_array.specs.Least.{least}
use Rattle.drm_index_array.proofs.Least.{least_is, least_is_none}
use Rattle.drm_index_array.specs.Word.{has_bit}

-- Not is its own inverse.
pub not-not : (b : Bool) → not (not b) ≡ b
not-not true = refl
not-not false = refl

-- the part of a word from a place on
tail_of : (word from i : ℕ) → from ≤ i → i < 64 → bit_at (bit_and word (2 ^ 64 - 2 ^ from)) i ≡ bit_at word i
tail_of word from i ge lt =
    bit_at_and word (2 ^ 64 - 2 ^ from) i ∙ omega (arith, bit_at_mask_inside from 64 i ge lt, bit_at-lt word i)

tail_below : (word from i : ℕ) → i < from → bit_at (bit_and word (2 ^ 64 - 2 ^ from)) i ≡ 0
tail_below word from i lt = bit_at_and word (2 ^ 64 - 2 ^ from) i ∙ omega (arith, bit_at_mask_below from 64 i lt)

zero_test : (n : ℕ) → n ≡ 0 → eqb n 1 ≡ false
zero_test n e = rw e refl

one_test : (n : ℕ) → n ≡ 1 → eqb n 1 ≡ true
one_test n e = rw e refl

-- If a word has no bits from a place on, no place from there on is found.
pub no_position : (word from : ℕ) → bit_and word (2 ^ 64 - 2 ^ from) ≡ 0 → None ≡ least (has_bit word) from 63
no_position word from none =
    sym
    (least_is_none (has_bit word) from 63 (λ k ge le. zero_test _ (sym (tail_of word from k ge (omega arith)) ∙ ap (λ n. bit_at n k) none ∙ bit_at-zero k)))

-- If a word has bits from a place on, the lowest of them is found.
pub least_position : (word from : ℕ) → 0 < bit_and word (2 ^ 64 - 2 ^ from) → bit_and word (2 ^ 64 - 2 ^ from) < 2 ^ 64
    → Some (trailing_zeros w64 (bit_and word (2 ^ 64 - 2 ^ from))) ≡ least (has_bit word) from 63
least_position word from some fits =
    let rest = bit_and word (2 ^ 64 - 2 ^ from) in
    let lowest = bit_at-trailing_zeros w64 rest some fits in
    let position = trailing_zeros w64 rest in
    let ge : from ≤ position = least_ge word from position lowest.1 in
    sym (least_is (has_bit word) from 63 position (record {
      at_least = ge;
      at_most = omega (arith, lowest.0);
      passes = one_test _ (sym (tail_of word from position ge lowest.0) ∙ lowest.1);
      none_below = λ k low lt. zero_test _ (sym (tail_of word from k low (omega (arith, lowest.0))) ∙ lowest.2 k lt);
    }))
  where
    least_ge : (word from position : ℕ) → bit_at (bit_and word (2 ^ 64 - 2 ^ from)) position ≡ 1 → from ≤ position
    least_ge word from position one =
        elim (cases_lt position from) [
          | inl below ↦ absurd (omega (arith, tail_below word from position below, one))
          | inr ge ↦ ge
        ]

-- The bitwise AND of two numbers fits 64 bits.
pub and_fits : (a b : ℕ) → a < 2 ^ 64 → bit_and a b < 2 ^ 64
and_fits a b fits = omega (arith, and_le_l a b)

-- Setting a bit of a word sets this bit and changes no other.
pub has_bit-set : (word k i : ℕ) → k < 64 → i < 64
    → has_bit (bit_or word (1 * 2 ^ k % 2 ^ 64)) i ≡ (if i == k then true else has_bit word i)
has_bit-set word k i within lt =
    elim (cases_eq i k) [
      | inl same ↦ let test : eqb i k ≡ true = grind (arith, nat_tests) in rw (test, same) (one_test _ (bit_at_set_same w64 word k within))
      | inr apart ↦ let test : eqb i k ≡ false = grind (arith, nat_tests) in rw test (ap (λ n. eqb n 1) (bit_at_set_other w64 word k within i apart))
    ]

-- Clearing a bit of a word clears this bit and changes no other.
pub has_bit-clear : (word k i : ℕ) → k < 64 → i < 64
    → has_bit (bit_and word (bit_not w64 (1 * 2 ^ k % 2 ^ 64))) i ≡ (if i == k then false else has_bit word i)
has_bit-clear word k i within lt =
    elim (cases_eq i k) [
      | inl same ↦ let test : eqb i k ≡ true = grind (arith, nat_tests) in rw (test, same) (zero_test _ (bit_at_clear_same w64 word k within))
      | inr apart ↦ let test : eqb i k ≡ false = grind (arith, nat_tests) in rw test (ap (λ n. eqb n 1) (bit_at_clear_other w64 word k within i lt apart))
    ]

-- The complement of a word has exactly the bits that the word does not have.
pub has_bit-not : (word i : ℕ) → word < 2 ^ 64 → i < 64 → has_bit (bit_not w64 word) i ≡ not (has_bit word i)
has_bit-not word i fits lt =
    let flipped = bit_at_not w64 word i fits lt in
    let small = bit_at-lt word i in
    grind (arith, nat_tests)

-- Which mode objects a word represents.
use Rattle.std.proofs.Common.{◌≡◌, ℕ, zero, suc, ◌+◌, ◌-◌, ◌*◌, ◌%◌, ◌^◌, ◌<◌, ◌≤◌, ◌==◌, nat_lt, Bool, true, false, cond, not, min, max, ◌&&◌, ◌||◌, List, [], ◌∷◌, ◌++◌, filter, length, w64, eqb, refl, sym, ap, ◌∙◌, inl, inr, arith, append-nil}
use Rattle.std.proofs.Math.Bool.{and-false, and-true, or-false}
use Rattle.std.specs.Prelude.{nat_le, if◌then◌else◌}
use Rattle.std.specs.List.{AllByRecursion}
use Rattle.std.specs.Int.RustNames.{bit_and, bit_or}
use Rattle.std.proofs.lemmas.Bool.{cases_eq, eqb-true, false≢true}
use Rattle.std.specs.Int.{bit_at, bit_not}
use Rattle.std.proofs.lemmas.Nat.Bits.{bit_at-zero, bit_at-lt, bit_at_and, bit_at_or, bit_at_not, bit_at_set_same, bit_at_set_other}
use Rattle.std.proofs.lemmas.Bool.Decides.{nat_tests}
use Rattle.drm_index_array.specs.Numbers.{is_among}
use Rattle.drm_index_array.proofs.Lists.{filter-same, filter-shorter}
use Rattle.drm_modes.specs.Numbers.{numbers_from}
use Rattle.drm_modes.proofs.Ids.{is_among-numbers_from}
use Rattle.drm_index_array.specs.Word.{has_bit}
use Rattle.drm_leases.specs.Masks.{IsFixed, has_object, objects_in}

-- A number is among those that pass if and only if it passes and is in the list.
pub among_passing : (p : ℕ → Bool) (x : ℕ) → (xs : List ℕ) → is_among (filter p xs) x ≡ (p x && is_among xs x)
among_passing p x [] = none (p x)
  where
    none : (b : Bool) → false ≡ (b && false)
    none true = refl
    none false = refl
among_passing p x (y ∷ ys) =
    elim (p y) as (λ b. p y ≡ b → is_among (cond b (y ∷ filter p ys) (filter p ys)) x ≡ (p x && ((y == x) || is_among ys x))) [
      | true ↦ λ e. ap (λ b. (y == x) || b) (among_passing p x ys) ∙ elim (y == x) as (λ b. (y == x) ≡ b → (b || (p x && is_among ys x)) ≡ (p x && (b || is_among ys x))) [
        | true ↦ λ same. ap (λ b. b && true) (sym e ∙ ap p (eqb-true y x same))
        | false ↦ λ differs. refl
      ] refl
      | false ↦ λ e. among_passing p x ys ∙ elim (y == x) as (λ b. (y == x) ≡ b → (p x && is_among ys x) ≡ (p x && (b || is_among ys x))) [
        | true ↦ λ same. ap (λ b. b && is_among ys x) (ap p (sym (eqb-true y x same)) ∙ e) ∙ ap (λ b. b && true) (sym (ap p (sym (eqb-true y x same)) ∙ e))
        | false ↦ λ differs. refl
      ] refl
    ] refl

in_range : (x : ℕ) (b : Bool)
    → (((nat_le 1 x && nat_le x 64) && b) && (nat_le 1 x && nat_lt x (1 + 64))) ≡ ((nat_le 1 x && nat_le x 64) && b)
in_range x true = grind (arith, nat_tests)
in_range x false = grind (arith, nat_tests)

-- A mode object is in the list of a mask if and only if the mask has it.
pub among_objects : (mask x : ℕ) → is_among (objects_in mask) x ≡ has_object mask x
among_objects mask x =
    among_passing (has_object mask) x (numbers_from 1 64)
    ∙ ap (λ b. has_object mask x && b) (is_among-numbers_from 1 64 x) ∙ in_range x (has_bit mask (x - 1))

-- ---- a mask that is made of a list

none_yet : (x : ℕ) → ((nat_le 1 x && nat_le x 64) && has_bit 0 (x - 1)) ≡ false
none_yet x = elim (nat_le 1 x && nat_le x 64) as (λ b. (b && has_bit 0 (x - 1)) ≡ false) [ true ↦ ap (λ n. n == 1) (bit_at-zero (x - 1)) | false ↦ refl ]

-- The mask 0 has no mode object.
pub empty_mask : (x : ℕ) → has_object 0 x ≡ false
empty_mask x = none_yet x

-- a word with the bit of one place set
has_bit-set : (word k i : ℕ) → k < 64
    → has_bit (bit_or word (1 * 2 ^ k % 2 ^ 64)) i ≡ (if i == k then true else has_bit word i)
has_bit-set word k i within =
    elim (cases_eq i k) [
      | inl same ↦ let test : eqb i k ≡ true = grind (arith, nat_tests) in rw (test, same) (ap (λ n. n == 1) (bit_at_set_same w64 word k within))
      | inr apart ↦ let test : eqb i k ≡ false = grind (arith, nat_tests) in rw test (ap (λ n. n == 1) (bit_at_set_other w64 word k within i apart))
    ]

-- Setting the bit of a mode object adds this one to the mask and no other.
pub one_set : (mask id x : ℕ) → IsFixed id
    → has_object (bit_or mask (1 * 2 ^ (id - 1) % 2 ^ 64)) x ≡ (has_object mask x || (id == x))
one_set mask id x fixed = by_range (nat_le 1 x && nat_le x 64) refl
  where
    low : (x : ℕ) → (nat_le 1 x && nat_le x 64) ≡ true → (1 ≤ x) × (x ≤ 64)
    low x h = (grind (arith, nat_tests), grind (arith, nat_tests))

    outside : (x id : ℕ) → (nat_le 1 x && nat_le x 64) ≡ false → 1 ≤ id → id ≤ 64 → (id == x) ≡ false
    outside x id h ge le = grind (arith, nat_tests)

    shifted : (x id : ℕ) → 1 ≤ x → 1 ≤ id → (x - 1 == id - 1) ≡ (id == x)
    shifted x id ge le = grind (arith, nat_tests)

    merged : (b c : Bool) → (if b then true else c) ≡ (c || b)
    merged true true = refl
    merged true false = refl
    merged false true = refl
    merged false false = refl

    by_range : (b : Bool) → (nat_le 1 x && nat_le x 64) ≡ b
        → (b && has_bit (bit_or mask (1 * 2 ^ (id - 1) % 2 ^ 64)) (x - 1)) ≡ ((b && has_bit mask (x - 1)) || (id == x))
    by_range true h =
        let r = low x h in
        let ge = fixed.0 in
        let le = fixed.1 in
        let ge2 = r.0 in
        let le2 = r.1 in
        has_bit-set mask (id - 1) (x - 1) (omega (arith, ge, le))
        ∙ ap (λ b. if b then true else has_bit mask (x - 1)) (shifted x id ge2 ge)
        ∙ merged (id == x) (has_bit mask (x - 1))
    by_range false h = sym (outside x id h fixed.0 fixed.1)

-- A number outside the range of a mask is none of those within.
pub none_outside : (number x : ℕ) → 1 ≤ x → x ≤ 64 → (IsFixed number → false ≡ true) → (number == x) ≡ false
none_outside number x ge le outside =
    elim (number == x) as (λ b. (number == x) ≡ b → b ≡ false) [
      | true ↦ λ e. let same = eqb-true number x e in absurd (false≢true (outside (omega (arith, same, ge), omega (arith, same, le))))
      | false ↦ λ _. refl
    ] refl

-- ---- the objects of such a mask

rest_none : (p : ℕ → Bool) (first count : ℕ) → ((x : ℕ) → first ≤ x → p x ≡ false)
    → filter p (numbers_from first count) ≡ []
unfolding numbers_from
rest_none p first zero none = refl
rest_none p first (suc count) none =
    ap (λ b. cond b (first ∷ filter p (numbers_from (first + 1) count)) (filter p (numbers_from (first + 1) count)))
    (none first (omega arith))
    ∙ rest_none p (first + 1) count (λ x le. none x (omega (arith, le)))

split_at : (p : ℕ → Bool) (first n more : ℕ)
    → filter p (numbers_from first (n + more)) ≡ filter p (numbers_from first n) ++ filter p (numbers_from (first + n) more)
unfolding numbers_from
split_at p first zero more =
    let none : 0 + more ≡ more = omega arith in
    let at : first ≡ first + 0 = omega arith in
    ap (λ k. filter p (numbers_from first k)) none ∙ ap (λ k. filter p (numbers_from k more)) at
split_at p first (suc n) more =
    let on : suc n + more ≡ suc (n + more) = omega arith in
    let at : first + 1 + n ≡ first + suc n = omega arith in
    ap (λ k. filter p (numbers_from first k)) on
    ∙ elim (p first) as (λ b. cond b (first ∷ filter p (numbers_from (first + 1) (n + more))) (filter p (numbers_from (first + 1) (n + more))) ≡ cond b (first ∷ filter p (numbers_from (first + 1) n)) (filter p (numbers_from (first + 1) n)) ++ filter p (numbers_from (first + suc n) more)) [
      | true ↦ ap (λ l. first ∷ l) (split_at p (first + 1) n more ∙ ap (λ k. filter p (numbers_from (first + 1) n) ++ filter p (numbers_from k more)) at)
      | false ↦ split_at p (first + 1) n more ∙ ap (λ k. filter p (numbers_from (first + 1) n) ++ filter p (numbers_from k more)) at
    ]

-- A mask of the passing numbers up to 64 has just these as its objects.
pub mask_objects : (p : ℕ → Bool) (n mask : ℕ) → n ≤ 64
    → ((x : ℕ) → has_object mask x ≡ is_among (filter p (numbers_from 1 n)) x)
    → objects_in mask ≡ filter p (numbers_from 1 n)
unfolding numbers_from
mask_objects p n mask le has =
    let more = 64 - n in
    let all : 64 ≡ n + more = omega (arith, le) in
    let q = has_object mask in
    ap (λ k. filter q (numbers_from 1 k)) all ∙ split_at q 1 n more
    ∙ ap (λ l. filter q (numbers_from 1 n) ++ l)
    (rest_none q (1 + n) more (λ x low. has x ∙ among_passing p x (numbers_from 1 n) ∙ ap (λ b. p x && b) (is_among-numbers_from 1 n x ∙ above x n low) ∙ and-false (p x)))
    ∙ append-nil (filter q (numbers_from 1 n))
    ∙ filter-same q p (numbers_from 1 n)
    (inside 1 n (λ x low high. has x ∙ among_passing p x (numbers_from 1 n) ∙ ap (λ b. p x && b) (is_among-numbers_from 1 n x ∙ within x n low high) ∙ and-true (p x)))
  where
    above : (x n : ℕ) → 1 + n ≤ x → (nat_le 1 x && nat_lt x (1 + n)) ≡ false
    above x n low = grind (arith, nat_tests)

    within : (x n : ℕ) → 1 ≤ x → x < 1 + n → (nat_le 1 x && nat_lt x (1 + n)) ≡ true
    within x n low high = grind (arith, nat_tests)

    inside : (first count : ℕ) → ((x : ℕ) → first ≤ x → x < first + count → has_object mask x ≡ p x)
        → AllByRecursion (λ x. has_object mask x ≡ p x) (numbers_from first count)
    inside first zero h = tt
    inside first (suc count) h =
        (h first (omega arith) (omega arith), inside (first + 1) count (λ x low high. h x (omega (arith, low)) (omega (arith, high))))

-- Numbers from 1 up to 64 are numbers of fixed objects.
pub are_fixed : (p : ℕ → Bool) (n : ℕ) → n ≤ 64 → AllByRecursion IsFixed (filter p (numbers_from 1 n))
unfolding numbers_from
are_fixed p n le = each 1 n (omega arith) (omega (arith, le))
  where
    each : (first count : ℕ) → 1 ≤ first → first + count ≤ 65
        → AllByRecursion IsFixed (filter p (numbers_from first count))
    each first zero low high = tt
    each first (suc count) low high =
        let more = each (first + 1) count (omega (arith, low)) (omega (arith, high)) in
        elim (p first) as (λ b. AllByRecursion IsFixed (cond b (first ∷ filter p (numbers_from (first + 1) count)) (filter p (numbers_from (first + 1) count)))) [ true ↦ ((low, omega (arith, high)), more) | false ↦ more ]

-- With one more number at the end, a list has this number and all that it had.
pub among_pushed : (xs : List ℕ) (id x : ℕ) → is_among (xs ++ id ∷ []) x ≡ (is_among xs x || (id == x))
among_pushed [] id x = or-false (id == x)
among_pushed (y ∷ ys) id x = ap (λ b. (y == x) || b) (among_pushed ys id x) ∙ grouped (y == x) (is_among ys x) (id == x)
  where
    grouped : (a b c : Bool) → (a || (b || c)) ≡ ((a || b) || c)
    grouped true b c = refl
    grouped false b c = refl

-- A mask has at most 64 objects.
pub few_objects : (mask : ℕ) → length (objects_in mask) ≤ 64
unfolding numbers_from
few_objects mask = let less = filter-shorter (has_object mask) (numbers_from 1 64) in omega (arith, less)

-- ---- two masks

in_both_ranges : (r b c : Bool) → (r && (b || c)) ≡ ((r && b) || (r && c))
in_both_ranges true b c = refl
in_both_ranges false b c = refl

-- The union of two masks has what one of them has.
pub either_has : (a b x : ℕ) → has_object (bit_or a b) x ≡ (has_object a x || has_object b x)
either_has a b x =
    ap (λ t. (nat_le 1 x && nat_le x 64) && t)
    (one (bit_at a (x - 1)) (bit_at b (x - 1)) (bit_at (bit_or a b) (x - 1)) (bit_at-lt a (x - 1)) (bit_at-lt b (x - 1)) (bit_at_or a b (x - 1)))
    ∙ in_both_ranges (nat_le 1 x && nat_le x 64) (has_bit a (x - 1)) (has_bit b (x - 1))
  where
    one : (m n k : ℕ) → m < 2 → n < 2 → k ≡ max m n → (k == 1) ≡ ((m == 1) || (n == 1))
    one m n k lt less is = grind (arith, nat_tests)

-- The first mask without the second has what only the first has.
pub first_has : (a b x : ℕ) → b < 2 ^ 64
    → has_object (bit_and a (bit_not w64 b)) x ≡ (has_object a x && not (has_object b x))
first_has a b x small = by_range (nat_le 1 x && nat_le x 64) refl
  where
    low : (x : ℕ) → (nat_le 1 x && nat_le x 64) ≡ true → x - 1 < 64
    low x h = grind (arith, nat_tests)

    one : (m n k : ℕ) → m < 2 → n < 2 → k ≡ min m (1 - n) → (k == 1) ≡ ((m == 1) && not (n == 1))
    one m n k lt less is = grind (arith, nat_tests)

    by_range : (r : Bool) → (nat_le 1 x && nat_le x 64) ≡ r
        → (r && has_bit (bit_and a (bit_not w64 b)) (x - 1)) ≡ ((r && has_bit a (x - 1)) && not (r && has_bit b (x - 1)))
    by_range true h =
        one (bit_at a (x - 1)) (bit_at b (x - 1)) (bit_at (bit_and a (bit_not w64 b)) (x - 1)) (bit_at-lt a (x - 1))
        (bit_at-lt b (x - 1))
        (bit_at_and a (bit_not w64 b) (x - 1) ∙ ap (λ k. min (bit_at a (x - 1)) k) (bit_at_not w64 b (x - 1) small (low x h)))
    by_range false h = refl

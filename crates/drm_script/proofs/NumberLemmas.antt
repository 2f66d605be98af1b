-- What a word reads as a number.
use Rattle.std.proofs.Common.{◌≡◌, ℕ, ◌<◌, ◌^◌, List, length, get_or, refl, ap, ◌∙◌, arith, Bool, true, false, cond, ◌≢◌, ◌&&◌, Some, None, Result, Ok, Err, nat_lt}
use Rattle.std.specs.Result.{result_ok}
use Rattle.std.specs.Str.{all_ascii_digits, IsUtf8}
use Rattle.std.specs.Str.Parse.{digits_value, ParsesUnsigned}
use Rattle.std.proofs.lemmas.Str.Parse.{IsNumeralModel, numerals_by_value, tells_all_ascii_digits, parse_plain, not_in_digits}
use Rattle.std.proofs.lemmas.Str.{IsUtf8-from_ascii}
use Rattle.std.proofs.lemmas.Fmt.{IsAscii-from_digits}
use Rattle.std.proofs.lemmas.Bool.Decides.{nat_tests}
use Rattle.drm_script.specs.Fields.{number_of}

-- Decimal digits with their value are a model of numerals.
pub own : IsNumeralModel (λ ds. all_ascii_digits ds ≡ true) (digits_value 10)
own = numerals_by_value (λ ds. all_ascii_digits ds ≡ true) tells_all_ascii_digits

abbrev pub IsNumber : List ℕ → Type 0
IsNumber w = (all_ascii_digits w ≡ true) × (0 < length w) × (digits_value 10 w < 2 ^ 64)

abbrev test : List ℕ → Bool
test w = nat_lt 0 (length w) && all_ascii_digits w && nat_lt (digits_value 10 w) (2 ^ 64)

test_true : (w : List ℕ) → IsNumber w → test w ≡ true
test_true w (d, l, v) = rw d (grind (arith, nat_tests))

-- Two tests that pass together both pass.
pub and_true : (a b : Bool) → (a && b) ≡ true → (a ≡ true) × (b ≡ true)
and_true true b h = (refl, h)
and_true false b h = (h, absurd (cc))

true_test : (w : List ℕ) → test w ≡ true → IsNumber w
true_test w t =
    let last = and_true (nat_lt 0 (length w) && all_ascii_digits w) _ t in
    let first = and_true (nat_lt 0 (length w)) _ last.0 in
    (first.1, grind (arith, nat_tests, first.0), grind (arith, nat_tests, last.1))

chosen_none : (b : Bool) (v : ℕ) → (b ≡ true → ⊥) → None ≡ cond b (Some v) None
chosen_none true v h = absurd (h refl)
chosen_none false v h = refl

-- A word that is no number has none.
pub number_none : (w : List ℕ) → (IsNumber w → ⊥) → None ≡ number_of w
unfolding number_of
number_none w h = chosen_none (test w) _ (λ t. h (true_test w t))

-- A word that is a number has the value of its digits.
pub number_some : (w : List ℕ) → IsNumber w → Some (digits_value 10 w) ≡ number_of w
unfolding number_of
number_some w h = rw (test_true w h) refl

-- A word that begins with a plus sign is no number.
pub number_plus : (w : List ℕ) → 0 < length w → get_or w 0 0 ≡ 43 → None ≡ number_of w
number_plus w l p = number_none w (λ h. not_in_digits own w 43 h.0 (λ r. omega arith) 0 l p)

-- A word that is not UTF-8 is no number.
pub number_no_text : (w : List ℕ) → (IsUtf8 w → ⊥) → None ≡ number_of w
number_no_text w n = number_none w (λ h. n (IsUtf8-from_ascii w (IsAscii-from_digits w (own.to w h.0))))

-- What parsing returns for a word without a plus sign is the word's number.
pub number_parsed : {E : Type 0} (w : List ℕ) (r : Result ℕ E) → get_or w 0 0 ≢ 43 → ParsesUnsigned 64 10 w r
    → result_ok r ≡ number_of w
number_parsed {E} w (Ok x) n h = let g = parse_plain own {E = E} 64 w (Ok x) h n in ap Some g.1 ∙ number_some w g.0
number_parsed {E} w (Err e) n h = number_none w (λ q. parse_plain own {E = E} 64 w (Err e) h n (q.0, q.1, q.2))

-- The empty word is no number.
pub number_empty : (w : List ℕ) → length w ≡ 0 → None ≡ number_of w
number_empty w e = number_none w (λ h. let l = h.1 in omega arith)

chosen_some : (b : Bool) (v n : ℕ) → cond b (Some v) None ≡ Some n → (b ≡ true) × (v ≡ n)
chosen_some true v n h = (refl, cc)
chosen_some false v n h = absurd (cc)

-- A word that has a number consists of digits with this value, which fits 64 bits.
pub number_is : (w : List ℕ) (n : ℕ) → number_of w ≡ Some n → IsNumber w × (digits_value 10 w ≡ n)
unfolding number_of
number_is w n h = let c = chosen_some (test w) _ n h in (true_test w c.0, c.1)

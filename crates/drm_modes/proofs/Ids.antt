-- Ids that follow one another.
use Rattle.std.proofs.Common.{◌≡◌, ℕ, zero, suc, ◌+◌, ◌==◌, nat_lt, false, ◌&&◌, ◌||◌, List, [], ◌∷◌, length, refl, ap, ◌∙◌, arith}
use Rattle.std.specs.Prelude.{nat_le}
use Rattle.std.specs.List.{list_all}
use Rattle.std.proofs.lemmas.Bool.Decides.{nat_tests}
use Rattle.drm_index_array.specs.Numbers.{is_among}
use Rattle.drm_modes.specs.Numbers.{numbers_from}

-- A run has as many numbers as it is long.
pub length-numbers_from : (first count : ℕ) → length (numbers_from first count) ≡ count
unfolding numbers_from
length-numbers_from first zero = refl
length-numbers_from first (suc count) = ap suc (length-numbers_from (first + 1) count)

none_between : (first x : ℕ) → false ≡ (nat_le first x && nat_lt x (first + 0))
none_between first x = grind (arith, nat_tests)

one_more_between : (first count x : ℕ)
    → ((first == x) || (nat_le (first + 1) x && nat_lt x (first + 1 + count))) ≡ (nat_le first x && nat_lt x (first + suc count))
one_more_between first count x = grind (arith, nat_tests)

-- A number is in a run if and only if it is within the run's bounds.
pub is_among-numbers_from : (first count x : ℕ)
    → is_among (numbers_from first count) x ≡ (nat_le first x && nat_lt x (first + count))
unfolding numbers_from
is_among-numbers_from first zero x = none_between first x
is_among-numbers_from first (suc count) x =
    ap (λ b. (first == x) || b) (is_among-numbers_from (first + 1) count x) ∙ one_more_between first count x

-- All of a list are in a run of numbers if and only if each is within its bounds.
pub list_all-numbers_from : (first count : ℕ) → (xs : List ℕ) →
    list_all (is_among (numbers_from first count)) xs ≡ list_all (λ x. nat_le first x && nat_lt x (first + count)) xs
list_all-numbers_from first count [] = refl
list_all-numbers_from first count (x ∷ xs) =
    ap (λ b. b && list_all (is_among (numbers_from first count)) xs) (is_among-numbers_from first count x)
    ∙ ap (λ b. (nat_le first x && nat_lt x (first + count)) && b) (list_all-numbers_from first count xs)

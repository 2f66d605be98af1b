-- Lists that a loop makes: what is in the list so far, and what is left.
use Rattle.std.proofs.Common.{◌≡◌, ℕ, zero, suc, ◌+◌, ◌-◌, ◌<◌, ◌≤◌, Bool, true, false, cond, List, [], ◌∷◌, ◌++◌, map, filter, drop, None, Some, refl, sym, ap, ◌∙◌, append_assoc, append-nil, arith}
use Rattle.std.specs.Prelude.{slice_get}
use Rattle.drm_modes.specs.Numbers.{numbers_from}

-- ---- numbers that follow one another

next_numbers : (n count left : ℕ) → count ≡ suc left → numbers_from n count ≡ n ∷ numbers_from (n + 1) left
unfolding numbers_from
next_numbers n count left e = ap (numbers_from n) e

-- After one more number, the list so far and the run that is left are still the whole list.
pub number_told : (told all : List ℕ) (n stop : ℕ) → n < stop → told ++ numbers_from n (stop - n) ≡ all
    → (told ++ n ∷ []) ++ numbers_from (n + 1) (stop - (n + 1)) ≡ all
number_told told all n stop lt h =
    append_assoc told (n ∷ []) (numbers_from (n + 1) (stop - (n + 1)))
    ∙ ap (λ l. told ++ l) (sym (next_numbers n (stop - n) (stop - (n + 1)) (omega (arith, lt)))) ∙ h

no_numbers : (n count : ℕ) → count ≡ 0 → numbers_from n count ≡ []
unfolding numbers_from
no_numbers n count e = ap (numbers_from n) e

-- If no number is left, the list so far is the whole list.
pub numbers_told : (told all : List ℕ) (n stop : ℕ) → stop ≤ n → told ++ numbers_from n (stop - n) ≡ all → told ≡ all
numbers_told told all n stop le h =
    sym (append-nil told) ∙ ap (λ l. told ++ l) (sym (no_numbers n (stop - n) (omega (arith, le)))) ∙ h

-- ---- what passes of the rows of a list

module _ {X : Type 0} (p : X → Bool) (f : X → ℕ) where
  next_at : (xs : List X) (i : ℕ) (x : X) → Some x ≡ slice_get xs i → drop i xs ≡ x ∷ drop (suc i) xs
  next_at [] i x h = absurd (let e : Some x ≡ None = h in cc)
  next_at (y ∷ ys) zero x h = let e : Some x ≡ Some y = h in let same : x ≡ y = cc in ap (λ z. z ∷ ys) (sym same)
  next_at (y ∷ ys) (suc i) x h = next_at ys i x h

  none_at : (xs : List X) (i : ℕ) → None ≡ slice_get xs i → drop i xs ≡ []
  none_at [] zero h = refl
  none_at [] (suc i) h = refl
  none_at (y ∷ ys) zero h = absurd (let e : None ≡ Some y = h in cc)
  none_at (y ∷ ys) (suc i) h = none_at ys i h

  one_more : (i : ℕ) → suc i ≡ i + 1
  one_more i = omega arith

  -- those of the rest
  abbrev pub rest_of : List X → ℕ → List ℕ
  rest_of xs i = map f (filter p (drop i xs))

  rest_is : (xs : List X) (i : ℕ) (x : X) → Some x ≡ slice_get xs i
      → rest_of xs i ≡ map f (cond (p x) (x ∷ filter p (drop (i + 1) xs)) (filter p (drop (i + 1) xs)))
  rest_is xs i x h = ap (λ l. map f (filter p l)) (next_at xs i x h ∙ ap (λ n. x ∷ drop n xs) (one_more i))

  -- If the next row passes, the list with its number and the rows left are still the whole list.
  pub row_told : (xs : List X) (told all : List ℕ) (i : ℕ) (x : X) → Some x ≡ slice_get xs i → p x ≡ true
      → told ++ rest_of xs i ≡ all → (told ++ f x ∷ []) ++ rest_of xs (i + 1) ≡ all
  row_told xs told all i x at passes h =
      append_assoc told (f x ∷ []) (rest_of xs (i + 1))
      ∙ ap (λ l. told ++ l)
      (sym (rest_is xs i x at ∙ ap (λ b. map f (cond b (x ∷ filter p (drop (i + 1) xs)) (filter p (drop (i + 1) xs)))) passes))
      ∙ h

  -- If the next row fails, the list so far and the rows left are still the whole list.
  pub row_passed : (xs : List X) (told all : List ℕ) (i : ℕ) (x : X) → Some x ≡ slice_get xs i → p x ≡ false
      → told ++ rest_of xs i ≡ all → told ++ rest_of xs (i + 1) ≡ all
  row_passed xs told all i x at fails h =
      ap (λ l. told ++ l)
      (sym (rest_is xs i x at ∙ ap (λ b. map f (cond b (x ∷ filter p (drop (i + 1) xs)) (filter p (drop (i + 1) xs)))) fails))
      ∙ h

  -- If no row is left, the list so far is the whole list.
  pub rows_told : (xs : List X) (told all : List ℕ) (i : ℕ) → None ≡ slice_get xs i → told ++ rest_of xs i ≡ all
      → told ≡ all
  rows_told xs told all i none h =
      sym (append-nil told) ∙ ap (λ l. told ++ map f (filter p l)) (sym (none_at xs i none)) ∙ h

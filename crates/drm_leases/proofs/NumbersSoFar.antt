-- Lists that a loop makes of the numbers that pass a test: what is reported so far, and what is still to come.
use Rattle.std.proofs.Common.{◌≡◌, ℕ, ◌+◌, ◌-◌, ◌<◌, ◌≤◌, ◌⊎◌, inl, inr, Bool, true, false, cond, List, [], ◌∷◌, ◌++◌, filter, length, refl, sym, ap, ◌∙◌, append_assoc, append-nil, length-append, arith}
use Rattle.drm_modes.specs.Numbers.{numbers_from}
use Rattle.drm_modes.proofs.ListsSoFar.{number_told, numbers_told}

module _ (p : ℕ → Bool) (told all : List ℕ) (n stop : ℕ) where
  abbrev rest : List ℕ
  rest = numbers_from (n + 1) (stop - (n + 1))

  rest_is : n < stop → filter p (numbers_from n (stop - n)) ≡ cond (p n) (n ∷ filter p rest) (filter p rest)
  rest_is lt = ap (filter p) (sym (number_told [] (numbers_from n (stop - n)) n stop lt refl))

  passing_told : n < stop → p n ≡ true → told ++ filter p (numbers_from n (stop - n)) ≡ all
      → (told ++ n ∷ []) ++ filter p rest ≡ all
  passing_told lt passes h =
      append_assoc told (n ∷ []) (filter p rest)
      ∙ ap (λ l. told ++ l) (sym (rest_is lt ∙ ap (λ b. cond b (n ∷ filter p rest) (filter p rest)) passes)) ∙ h

  failing_passed : n < stop → p n ≡ false → told ++ filter p (numbers_from n (stop - n)) ≡ all
      → told ++ filter p rest ≡ all
  failing_passed lt fails h =
      ap (λ l. told ++ l) (sym (rest_is lt ∙ ap (λ b. cond b (n ∷ filter p rest) (filter p rest)) fails)) ∙ h

  -- a number is reported where it passes
  abbrev pub Looked : Bool → List ℕ → Type 0
  Looked b now = ((b ≡ true) × (now ≡ told ++ n ∷ [])) ⊎ ((b ≡ false) × (now ≡ told))

  -- After one more number is tested, the list so far and the rest to test are still the whole list.
  pub looked : n < stop → (b : Bool) → b ≡ p n → (now : List ℕ) → Looked b now
      → told ++ filter p (numbers_from n (stop - n)) ≡ all → now ++ filter p rest ≡ all
  looked lt b is now (inl w) h = ap (λ l. l ++ filter p rest) w.1 ∙ passing_told lt (sym is ∙ w.0) h
  looked lt b is now (inr w) h = ap (λ l. l ++ filter p rest) w.1 ∙ failing_passed lt (sym is ∙ w.0) h

  -- The list so far is longer by at most one after each number.
  pub one_longer : (b : Bool) (now : List ℕ) → Looked b now → length now ≤ length told + 1
  one_longer b now (inl w) = let e = ap length w.1 ∙ length-append told (n ∷ []) in omega (arith, e)
  one_longer b now (inr w) = let e = ap length w.1 in omega (arith, e)

  -- If no number is left, the list so far is the whole list.
  pub all_told : stop ≤ n → told ++ filter p (numbers_from n (stop - n)) ≡ all → told ≡ all
  all_told le h =
      sym (append-nil told) ∙ ap (λ l. told ++ filter p l) (numbers_told [] (numbers_from n (stop - n)) n stop le refl)
      ∙ h

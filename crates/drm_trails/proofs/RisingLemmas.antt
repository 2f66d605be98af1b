-- Notes that rise by a number, looked up from a place on.
use Rattle.std.proofs.Common.{◌≡◌, ℕ, zero, suc, ◌<◌, ◌≤◌, ◌==◌, Bool, true, false, cond, List, [], ◌∷◌, drop, length, get_or, Option, None, Some, find, reverse, take, refl, sym, ap, ◌∙◌, arith}
use Rattle.std.specs.Prelude.{slice_get, nat_lt}
use Rattle.std.proofs.lemmas.Bool.Decides.{nat_tests}
use Rattle.std.specs.List.{AllByRecursion}
use Rattle.std.specs.Option.{option_or}
use Rattle.std.proofs.lemmas.Bool.{eqb-true, ne_eqb}
use Rattle.std.proofs.lemmas.List.{reverse-append}
use Rattle.std.proofs.lemmas.List.Folds.{find-append}
use Rattle.drm_index_array.specs.Orders.{InOrder}
use Rattle.drm_index_array.proofs.Lists.{all_weaker}
use Rattle.drm_index_array.proofs.FoundInLists.{find_none}

module _ {X : Type 0} where
  all_index : (P : X → Type 0) (xs : List X) → AllByRecursion P xs → (k : ℕ) (d : X) → k < length xs → P (get_or xs k d)
  all_index P [] h k d lt = absurd (omega (arith, lt))
  all_index P (x ∷ xs) h zero d lt = h.0
  all_index P (x ∷ xs) h (suc k) d lt = all_index P xs h.1 k d (omega (arith, lt))

  -- Numbers that rise along a list do not fall between two places.
  pub up : (f : X → ℕ) (xs : List X) → InOrder (λ x y. f x ≤ f y) xs → (i j : ℕ) (d : X) → i ≤ j → j < length xs
      → f (get_or xs i d) ≤ f (get_or xs j d)
  up f [] h i j d le lt = absurd (omega (arith, lt))
  up f (x ∷ xs) h zero zero d le lt = omega arith
  up f (x ∷ xs) h zero (suc j) d le lt = all_index (λ y. f x ≤ f y) xs h.0 j d (omega (arith, lt))
  up f (x ∷ xs) h (suc i) zero d le lt = absurd (omega (arith, le))
  up f (x ∷ xs) h (suc i) (suc j) d le lt = up f xs h.1 i j d (omega (arith, le)) (omega (arith, lt))

  -- If no item before a place passes, a search may begin there.
  pub find_from : (p : X → Bool) (xs : List X) (i : ℕ)
      → ((k : ℕ) (d : X) → k < i → k < length xs → p (get_or xs k d) ≡ false) → find p xs ≡ find p (drop i xs)
  find_from p xs zero none = refl
  find_from p [] (suc i) none = refl
  find_from p (x ∷ xs) (suc i) none =
      ap (λ b. cond b (Some x) (find p xs)) (none 0 x (omega arith) (omega arith))
      ∙ find_from p xs i (λ k d lt within. none (suc k) d (omega (arith, lt)) (omega (arith, within)))

  -- If the item at a place passes, a search from there finds it.
  pub find_there : (p : X → Bool) (xs : List X) (i : ℕ) (x : X) → slice_get xs i ≡ Some x → p x ≡ true
      → find p (drop i xs) ≡ Some x
  find_there p [] i x at h = absurd (let e : None ≡ Some x = at in cc)
  find_there p (y ∷ xs) zero x at h = let e : y ≡ x = (let s : Some y ≡ Some x = at in cc) in ap (λ b. cond b (Some y) (find p xs)) (ap p e ∙ h) ∙ ap Some e
  find_there p (y ∷ xs) (suc i) x at h = find_there p xs i x at h

  -- If no item from a place on passes, a search from there finds none.
  pub find_no_more : (p : X → Bool) (xs : List X) (i : ℕ)
      → ((k : ℕ) (d : X) → i ≤ k → k < length xs → p (get_or xs k d) ≡ false) → find p (drop i xs) ≡ None
  find_no_more p [] zero none = refl
  find_no_more p [] (suc i) none = refl
  find_no_more p (x ∷ xs) zero none =
      ap (λ b. cond b (Some x) (find p xs)) (none 0 x (omega arith) (omega arith))
      ∙ find_no_more p xs zero (λ k d le within. none (suc k) d (omega arith) (omega (arith, within)))
  find_no_more p (x ∷ xs) (suc i) none =
      find_no_more p xs i (λ k d le within. none (suc k) d (omega (arith, le)) (omega (arith, within)))

  -- If no item from a place on passes, the newest that passes is before that place.
  pub find_newest_before : (p : X → Bool) (xs : List X) (i : ℕ)
      → ((k : ℕ) (d : X) → i ≤ k → k < length xs → p (get_or xs k d) ≡ false)
      → find p (reverse xs) ≡ find p (reverse (take i xs))
  find_newest_before p [] zero none = refl
  find_newest_before p [] (suc i) none = refl
  find_newest_before p (x ∷ xs) zero none =
      ap (find p) (reverse-append (x ∷ []) xs) ∙ find-append p (reverse xs) (x ∷ [])
      ∙
      (λ j. option_or (find_newest_before p xs zero (λ k d le within. none (suc k) d (omega arith) (omega (arith, within))) j) (cond (none 0 x (omega arith) (omega arith) j) (Some x) None))
  find_newest_before p (x ∷ xs) (suc i) none =
      ap (find p) (reverse-append (x ∷ []) xs) ∙ find-append p (reverse xs) (x ∷ [])
      ∙ ap (λ o. option_or o (cond (p x) (Some x) None))
      (find_newest_before p xs i (λ k d le within. none (suc k) d (omega (arith, le)) (omega (arith, within))))
      ∙ sym (ap (find p) (reverse-append (x ∷ []) (take i xs)) ∙ find-append p (reverse (take i xs)) (x ∷ []))

  -- If numbers rise along notes, the newest note of a number is the first one.
  pub one_newest : (f : X → ℕ) (n : ℕ) (xs : List X) → InOrder (λ x y. f x < f y) xs
      → find (λ x. n == f x) (reverse xs) ≡ find (λ x. n == f x) xs
  one_newest f n [] h = refl
  one_newest f n (x ∷ xs) h =
      ap (find (λ y. n == f y)) (reverse-append (x ∷ []) xs) ∙ find-append (λ y. n == f y) (reverse xs) (x ∷ [])
      ∙ ap (λ o. option_or o (cond (n == f x) (Some x) None)) (one_newest f n xs h.1)
      ∙ elim (n == f x) as (λ b. (n == f x) ≡ b → option_or (find (λ y. n == f y) xs) (cond b (Some x) None) ≡ cond b (Some x) (find (λ y. n == f y) xs)) [
        | true ↦ λ e.
            let same : n ≡ f x = eqb-true n (f x) e in
            ap (λ o. option_or o (Some x))
            (find_none (λ y. n == f y) xs (all_weaker (λ y. f x < f y) (λ y. (n == f y) ≡ false) (λ y lt. ne_eqb n (f y) (λ k. omega (arith, same, lt, k))) xs h.0))
        | false ↦ λ e. or_none (find (λ y. n == f y) xs)
      ] refl
    where
      or_none : (o : Option X) → option_or o None ≡ o
      or_none None = refl
      or_none (Some y) = refl

-- If one number is not less than another, the other is at most it.
pub not_less : (a b : ℕ) → false ≡ nat_lt a b → b ≤ a
not_less a b fails = grind (arith, nat_tests)

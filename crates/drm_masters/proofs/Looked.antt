-- A walk over the places of a list.
use Rattle.std.proofs.Common.{◌≡◌, ℕ, ◌+◌, ◌<◌, ◌≤◌, Bool, true, false, cond, ◌||◌, List, [], ◌∷◌, ◌++◌, find, drop, take, length, get_or, None, Some, refl, sym, ap, ◌∙◌, inl, inr, arith}
use Rattle.std.specs.Prelude.{slice_get, ◌⊎◌}
use Rattle.std.specs.List.{list_any}
use Rattle.std.proofs.lemmas.List.{drop_more, drop_all, take_more}
use Rattle.std.proofs.lemmas.Option.{slice_get_within, slice_get_cases, get_or_from_slice_get, none-some}

module _ {X : Type 0} (xs : List X) (i : ℕ) where
  -- Each place within a list has an element.
  pub is_there : i < length xs → slice_get xs i ≡ None → ⊥
  is_there lt none = by_cases (slice_get_cases xs i).1
    where
      by_cases : ((x : X) × (i < length xs) × (slice_get xs i ≡ Some x) × (get_or xs i x ≡ x)) ⊎ ((length xs ≤ i) × (slice_get xs i ≡ None))
          → ⊥
      by_cases (inl w) = none-some w.0 (sym none ∙ w.2)
      by_cases (inr w) = let le = w.0 in omega (arith, lt, le)

  module _ (x : X) (at : slice_get xs i ≡ Some x) where
    -- The rest of a list from a place on begins with the element at this place.
    pub next_is : drop i xs ≡ x ∷ drop (i + 1) xs
    next_is =
        drop_more xs i x (slice_get_within xs i x at)
        ∙ ap (λ y. y ∷ drop (i + 1) xs) (get_or_from_slice_get xs i x x at)

    -- The front of a list up to and with a place ends with the element at this place.
    pub front_is : take (i + 1) xs ≡ take i xs ++ x ∷ []
    front_is =
        take_more xs i x (slice_get_within xs i x at)
        ∙ ap (λ y. take i xs ++ y ∷ []) (get_or_from_slice_get xs i x x at)

    -- If the element at a place passes, the search finds it.
    pub find_here : (p : X → Bool) → find p xs ≡ find p (drop i xs) → p x ≡ true → Some x ≡ find p xs
    find_here p so_far passes =
        sym (so_far ∙ ap (find p) next_is ∙ ap (λ b. cond b (Some x) (find p (drop (i + 1) xs))) passes)

    -- If the element at a place fails, the search continues in the rest after it.
    pub find_on : (p : X → Bool) → find p xs ≡ find p (drop i xs) → p x ≡ false → find p xs ≡ find p (drop (i + 1) xs)
    find_on p so_far fails = so_far ∙ ap (find p) next_is ∙ ap (λ b. cond b (Some x) (find p (drop (i + 1) xs))) fails

    -- If the element at a place passes, some element of the list does.
    pub any_here : (p : X → Bool) → list_any p xs ≡ list_any p (drop i xs) → p x ≡ true → true ≡ list_any p xs
    any_here p so_far passes =
        sym (so_far ∙ ap (list_any p) next_is ∙ ap (λ b. b || list_any p (drop (i + 1) xs)) passes)

    -- If the element at a place fails, some element passes if and only if one in the rest after it does.
    pub any_on : (p : X → Bool) → list_any p xs ≡ list_any p (drop i xs) → p x ≡ false
        → list_any p xs ≡ list_any p (drop (i + 1) xs)
    any_on p so_far fails = so_far ∙ ap (list_any p) next_is ∙ ap (λ b. b || list_any p (drop (i + 1) xs)) fails

    -- Some element up to and with a place passes if and only if the one here or an earlier one does.
    pub any_pushed : (p : X → Bool) → list_any p (take (i + 1) xs) ≡ (p x || list_any p (take i xs))
    any_pushed p = ap (list_any p) front_is ∙ last (take i xs)
      where
        swap : (a b c : Bool) → (a || (b || c)) ≡ (b || (a || c))
        swap true true c = refl
        swap true false c = refl
        swap false b c = refl

        last : (ys : List X) → list_any p (ys ++ x ∷ []) ≡ (p x || list_any p ys)
        last [] = refl
        last (y ∷ ys) = ap (λ b. p y || b) (last ys) ∙ swap (p y) (p x) (list_any p ys)

  -- If a walk without a passing element reaches the end, nothing is found.
  pub find_end : (p : X → Bool) → find p xs ≡ find p (drop i xs) → length xs ≤ i → None ≡ find p xs
  find_end p so_far past = sym (so_far ∙ ap (find p) (drop_all i xs past))

  -- If a walk without a passing element reaches the end, no element passes.
  pub any_end : (p : X → Bool) → list_any p xs ≡ list_any p (drop i xs) → length xs ≤ i → false ≡ list_any p xs
  any_end p so_far past = sym (so_far ∙ ap (list_any p) (drop_all i xs past))

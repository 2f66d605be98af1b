-- What a test that no element passes says of each, and what a found element is.
use Rattle.std.proofs.Common.{◌≡◌, Bool, true, false, cond, ◌||◌, List, [], ◌∷◌, filter, map, Option, None, Some, refl, ap, ◌∙◌}
use Rattle.std.specs.List.{list_any, list_all, AllByRecursion}
use Rattle.std.specs.Option.{is_some}
use Rattle.std.proofs.lemmas.Bool.{and_parts, or_parts, or_left, or_right}
use Rattle.drm_index_array.proofs.Lists.{all_weaker}

-- If no element passes a test, each fails it.
pub each_fails : {X : Type 0} (p : X → Bool) → (xs : List X) → list_any p xs ≡ false
    → AllByRecursion (λ x. p x ≡ false) xs
each_fails p [] h = tt
each_fails p (x ∷ xs) h = let parts = or_parts (p x) (list_any p xs) h in (parts.0, each_fails p xs parts.1)

-- If each element fails a test, none passes it.
pub none_passes : {X : Type 0} (p : X → Bool) → (xs : List X) → AllByRecursion (λ x. p x ≡ false) xs
    → list_any p xs ≡ false
none_passes p [] h = refl
none_passes p (x ∷ xs) h = ap (λ b. b || list_any p xs) h.0 ∙ none_passes p xs h.1

-- An option that has a value is `Some` of a value.
pub some_found : {X : Type 0} (o : Option X) → is_some o ≡ true → (x : X) × (o ≡ Some x)
some_found None h = absurd (let e : false ≡ true = h in cc)
some_found (Some x) h = (x, refl)

-- ---- some element that passes

-- If an element passes its own test, some element of the list passes it.
pub each_any : {X : Type 0} (p : X → X → Bool) → (xs : List X)
    → AllByRecursion (λ x. p x x ≡ true → list_any (p x) xs ≡ true) xs
each_any p [] = tt
each_any p (x ∷ xs) =
    (λ e. or_left (p x x) (list_any (p x) xs) e, all_weaker (λ y. p y y ≡ true → list_any (p y) xs ≡ true) (λ y. p y y ≡ true → list_any (p y) (x ∷ xs) ≡ true) (λ y h e. or_right (p y x) (list_any (p y) xs) (h e)) xs (each_any p xs))

-- If a filter keeps all that pass, some element passes after it if one did before.
pub any_filter : {X : Type 0} (P : X → Type 0) (p q : X → Bool) → ((x : X) → P x → p x ≡ true → q x ≡ true)
    → (xs : List X) → AllByRecursion P xs → list_any p xs ≡ true → list_any p (filter q xs) ≡ true
any_filter P p q f [] h e = e
any_filter {X = X} P p q f (x ∷ xs) h e =
    let rest = filter q xs in
    (elim (p x) as (λ b. p x ≡ b → (b || list_any p xs) ≡ true → list_any p (cond (q x) (x ∷ rest) rest) ≡ true) [
      | true ↦ λ is k. ap (λ b. list_any p (cond b (x ∷ rest) rest)) (f x h.0 is) ∙ or_left (p x) (list_any p rest) is
      | false ↦ λ is k. stays (q x) (any_filter P p q f xs h.1 k)
    ]) refl e
  where
    stays : (b : Bool) → list_any p (filter q xs) ≡ true → list_any p (cond b (x ∷ filter q xs) (filter q xs)) ≡ true
    stays true k = or_right (p x) (list_any p (filter q xs)) k
    stays false k = k

-- If a map turns each passing element into a passing one, some element passes after it if one did before.
pub any_mapped : {X Y : Type 0} (P : X → Type 0) (p : X → Bool) (q : Y → Bool) (f : X → Y)
    → ((x : X) → P x → p x ≡ true → q (f x) ≡ true) → (xs : List X) → AllByRecursion P xs → list_any p xs ≡ true
    → list_any q (map f xs) ≡ true
any_mapped P p q f g [] h e = absurd (let n : false ≡ true = e in cc)
any_mapped P p q f g (x ∷ xs) h e =
    (elim (p x) as (λ b. p x ≡ b → (b || list_any p xs) ≡ true → (q (f x) || list_any q (map f xs)) ≡ true) [
      | true ↦ λ is k. or_left (q (f x)) (list_any q (map f xs)) (g x h.0 is)
      | false ↦ λ is k. or_right (q (f x)) (list_any q (map f xs)) (any_mapped P p q f g xs h.1 k)
    ]) refl e

-- ---- all that pass, and none

-- If all pass a test, each element passes it.
pub each_passes : {X : Type 0} (p : X → Bool) → (xs : List X) → list_all p xs ≡ true
    → AllByRecursion (λ x. p x ≡ true) xs
each_passes p [] h = tt
each_passes p (x ∷ xs) h = let parts = and_parts (p x) (list_all p xs) h in (parts.0, each_passes p xs parts.1)

-- If no element passes, the filter leaves nothing.
pub filter_none : {X : Type 0} (p : X → Bool) → (xs : List X) → AllByRecursion (λ x. p x ≡ false) xs → filter p xs ≡ []
filter_none p [] h = refl
filter_none p (x ∷ xs) h = ap (λ b. cond b (x ∷ filter p xs) (filter p xs)) h.0 ∙ filter_none p xs h.1

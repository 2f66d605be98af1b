-- What is found in a list.
use Rattle.std.proofs.Common.{◌≡◌, ℕ, zero, suc, ◌==◌, Bool, true, false, not, cond, ◌&&◌, ◌||◌, List, [], ◌∷◌, ◌++◌, map, filter, find, Option, None, Some, refl, sym, ◌∙◌, ap, subst}
use Rattle.std.specs.Prelude.{slice_get, IfSome}
use Rattle.std.specs.List.{list_any, AllByRecursion}
use Rattle.std.specs.Option.{option_map, is_some, OnSome}
use Rattle.std.proofs.lemmas.Bool.{eqb-true}
use Rattle.drm_index_array.specs.Numbers.{is_among}
use Rattle.drm_index_array.proofs.Numbers.{other_number}

-- ---- options

-- A mapped option has a value if and only if the option has one.
pub is_some-map : {X Y : Type 0} (f : X → Y) → (o : Option X) → is_some (option_map f o) ≡ is_some o
is_some-map f None = refl
is_some-map f (Some x) = refl

-- An option without a value is `None`.
pub is_some-false : {X : Type 0} (o : Option X) → is_some o ≡ false → o ≡ None
is_some-false None h = refl
is_some-false (Some x) h = absurd (let e : true ≡ false = h in cc)

-- What holds if an option has a value holds, as the option has one.
pub on_some : {X : Type 0} (o : Option X) (P : Type 0) → is_some o ≡ true → OnSome o P → P
on_some None P h p = absurd (let e : false ≡ true = h in cc)
on_some (Some x) P h p = p

-- ---- the first that passes

-- Finding in a mapped list is finding in the list and mapping what is found.
pub find-map : {X Y : Type 0} (p : Y → Bool) (f : X → Y) → (xs : List X)
    → find p (map f xs) ≡ option_map f (find (λ x. p (f x)) xs)
find-map p f [] = refl
find-map p f (x ∷ xs) =
    elim (p (f x)) as (λ b. cond b (Some (f x)) (find p (map f xs)) ≡ option_map f (cond b (Some x) (find (λ x. p (f x)) xs)))
    [ true ↦ refl | false ↦ find-map p f xs ]

-- Two tests that agree on all elements find the same element.
pub find-same : {X : Type 0} (p q : X → Bool) → (xs : List X) → AllByRecursion (λ x. p x ≡ q x) xs
    → find p xs ≡ find q xs
find-same p q [] h = refl
find-same p q (x ∷ xs) h =
    ap (λ b. cond b (Some x) (find p xs)) h.0 ∙ ap (λ r. cond (q x) (Some x) r) (find-same p q xs h.1)

-- An element is found if and only if some element passes.
pub is_some-find : {X : Type 0} (p : X → Bool) → (xs : List X) → is_some (find p xs) ≡ list_any p xs
is_some-find p [] = refl
is_some-find p (x ∷ xs) =
    elim (p x) as (λ b. is_some (cond b (Some x) (find p xs)) ≡ (b || list_any p xs))
    [ true ↦ refl | false ↦ is_some-find p xs ]

-- What is true of all elements is true of the one that is found.
pub all_found : {X : Type 0} (P : X → Type 0) (p : X → Bool) → (xs : List X) → AllByRecursion P xs
    → IfSome (find p xs) P
all_found P p [] h = tt
all_found P p (x ∷ xs) h = elim (p x) as (λ b. IfSome (cond b (Some x) (find p xs)) P) [ true ↦ h.0 | false ↦ all_found P p xs h.1 ]

-- The element that is found passes the test.
pub found_passes : {X : Type 0} (p : X → Bool) → (xs : List X) → IfSome (find p xs) (λ x. p x ≡ true)
found_passes p [] = tt
found_passes p (x ∷ xs) = elim (p x) as (λ b. p x ≡ b → IfSome (cond b (Some x) (find p xs)) (λ x. p x ≡ true)) [ true ↦ λ e. e | false ↦ λ e. found_passes p xs ] refl

-- If no element passes, nothing is found.
pub find_none : {X : Type 0} (p : X → Bool) → (xs : List X) → AllByRecursion (λ x. p x ≡ false) xs → find p xs ≡ None
find_none p [] h = refl
find_none p (x ∷ xs) h = ap (λ b. cond b (Some x) (find p xs)) h.0 ∙ find_none p xs h.1

-- If nothing is found, no element passes.
pub none_found : {X : Type 0} (p : X → Bool) → (xs : List X) → find p xs ≡ None → AllByRecursion (λ x. p x ≡ false) xs
none_found p [] h = tt
none_found p (x ∷ xs) h =
    elim (p x) as (λ b. p x ≡ b → cond b (Some x) (find p xs) ≡ None → AllByRecursion (λ x. p x ≡ false) (x ∷ xs))
    [ true ↦ λ e j. absurd (let n : Some x ≡ None = j in cc) | false ↦ λ e j. (e, none_found p xs j) ] refl h

-- If the last element is the only one that passes, it is found.
pub find_last : {X : Type 0} (p : X → Bool) (y : X) → p y ≡ true → (xs : List X) → AllByRecursion (λ x. p x ≡ false) xs
    → find p (xs ++ y ∷ []) ≡ Some y
find_last p y e [] h = ap (λ b. cond b (Some y) None) e
find_last p y e (x ∷ xs) h = ap (λ b. cond b (Some x) (find p (xs ++ y ∷ []))) h.0 ∙ find_last p y e xs h.1

-- Removing the elements of one number does not change what is found by another number.
pub find_others : {X : Type 0} (f : X → ℕ) (n k : ℕ) → (n == k) ≡ false → (xs : List X)
    → find (λ x. f x == n) (filter (λ x. not (f x == k)) xs) ≡ find (λ x. f x == n) xs
find_others f n k h [] = refl
find_others f n k h (x ∷ xs) =
    let rest = filter (λ x. not (f x == k)) xs in
    elim (f x == k) as (λ b. (f x == k) ≡ b → find (λ x. f x == n) (cond (not b) (x ∷ rest) rest) ≡ find (λ x. f x == n) (x ∷ xs)) [
      | true ↦ λ e. find_others f n k h xs ∙ ap (λ b. cond b (Some x) (find (λ x. f x == n) xs)) (sym (other_number (f x) n k e h))
      | false ↦ λ e. ap (λ r. cond (f x == n) (Some x) r) (find_others f n k h xs)
    ] refl

-- A number is among those of the passing elements if and only if a passing element has it.
pub is_among-map_filter : {X : Type 0} (p : X → Bool) (f : X → ℕ) (n : ℕ) → (xs : List X)
    → is_among (map f (filter p xs)) n ≡ is_some (find (λ x. p x && (f x == n)) xs)
is_among-map_filter p f n [] = refl
is_among-map_filter {X = X} p f n (x ∷ xs) =
    let q = λ (x : X). p x && (f x == n) in
    elim (p x) as (λ b. is_among (map f (cond b (x ∷ filter p xs) (filter p xs))) n ≡ is_some (cond (b && (f x == n)) (Some x) (find q xs))) [
      | true ↦ elim (f x == n) as (λ e. (e || is_among (map f (filter p xs)) n) ≡ is_some (cond e (Some x) (find q xs))) [ true ↦ refl | false ↦ is_among-map_filter p f n xs ]
      | false ↦ is_among-map_filter p f n xs
    ]

same_number : (m n : ℕ) (b : Bool) → (not (m == n) || b) ≡ false → m ≡ n
same_number m n b h =
    (elim (m == n) as (λ t. (m == n) ≡ t → (not t || b) ≡ false → m ≡ n) [ true ↦ λ e k. eqb-true m n e | false ↦ λ e k. absurd (let j : true ≡ false = k in cc) ])
    refl h

-- If all passing elements have the same number, the one that is found has it.
pub found-number : {X : Type 0} (p : X → Bool) (f : X → ℕ) (n : ℕ) → (xs : List X)
    → list_any (λ x. p x && not (f x == n)) xs ≡ false → is_some (find p xs) ≡ true → option_map f (find p xs) ≡ Some n
found-number p f n [] h e = absurd (let k : false ≡ true = e in cc)
found-number {X = X} p f n (x ∷ xs) h e =
    elim (p x) as (λ b. ((b && not (f x == n)) || list_any (λ x. p x && not (f x == n)) xs) ≡ false → is_some (cond b (Some x) (find p xs)) ≡ true → option_map f (cond b (Some x) (find p xs)) ≡ Some n) [
      | true ↦ λ h e. ap Some (same_number (f x) n _ h)
      | false ↦ λ h e. found-number p f n xs h e
    ] h e

-- What is true of all elements is true of the one at a place.
pub all_at : {X : Type 0} (P : X → Type 0) → (xs : List X) (i : ℕ) (x : X) → AllByRecursion P xs
    → slice_get xs i ≡ Some x → P x
all_at P [] i x h e = absurd (let n : None ≡ Some x = e in cc)
all_at P (y ∷ ys) zero x h e = subst P (let s : Some y ≡ Some x = e in cc) h.0
all_at P (y ∷ ys) (suc i) x h e = all_at P ys i x h.1 e

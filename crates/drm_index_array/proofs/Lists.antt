-- What a map, a filter and a test return of a list, and what is true of all of its elements.
use Rattle.std.proofs.Common.{◌≡◌, suc, ◌+◌, ◌≤◌, ◌<◌, Bool, true, false, not, cond, ◌&&◌, ◌||◌, List, [], ◌∷◌, ◌++◌, map, filter, length, refl, sym, ◌∙◌, ap, arith, length-append}
use Rattle.std.specs.List.{list_any, AllByRecursion}
use Rattle.std.proofs.lemmas.Bool.{or_left, or_right, or_parts}
use Rattle.std.proofs.lemmas.List.Elements.{filter-append}
use Rattle.std.proofs.lemmas.List.Folds.{list_any-append}

-- ---- maps

-- Two maps, one after the other, are one map.
pub map-map : {X Y Z : Type 0} (g : Y → Z) (f : X → Y) → (xs : List X) → map g (map f xs) ≡ map (λ x. g (f x)) xs
map-map g f [] = refl
map-map g f (x ∷ xs) = ap (λ zs. g (f x) ∷ zs) (map-map g f xs)

-- ---- filters

-- A filter of a mapped list is the map of a filtered list.
pub filter-map : {X Y : Type 0} (p : Y → Bool) (f : X → Y) → (xs : List X)
    → filter p (map f xs) ≡ map f (filter (λ x. p (f x)) xs)
filter-map p f [] = refl
filter-map p f (x ∷ xs) =
    elim (p (f x)) as (λ b. cond b (f x ∷ filter p (map f xs)) (filter p (map f xs)) ≡ map f (cond b (x ∷ filter (λ x. p (f x)) xs) (filter (λ x. p (f x)) xs)))
    [ true ↦ ap (λ ys. f x ∷ ys) (filter-map p f xs) | false ↦ filter-map p f xs ]

-- If all elements pass, a filter leaves the list unchanged.
pub filter_all : {X : Type 0} (p : X → Bool) → (xs : List X) → AllByRecursion (λ x. p x ≡ true) xs → filter p xs ≡ xs
filter_all p [] h = refl
filter_all p (x ∷ xs) h = ap (λ b. cond b (x ∷ filter p xs) (filter p xs)) h.0 ∙ ap (λ ys. x ∷ ys) (filter_all p xs h.1)

-- Two tests that agree on all elements filter alike.
pub filter-same : {X : Type 0} (p q : X → Bool) → (xs : List X) → AllByRecursion (λ x. p x ≡ q x) xs
    → filter p xs ≡ filter q xs
filter-same p q [] h = refl
filter-same p q (x ∷ xs) h =
    ap (λ b. cond b (x ∷ filter p xs) (filter p xs)) h.0 ∙ ap (λ ys. cond (q x) (x ∷ ys) ys) (filter-same p q xs h.1)

-- Two filters, one after the other, are one filter by both tests.
pub filter-both : {X : Type 0} (p q : X → Bool) → (xs : List X) → filter p (filter q xs) ≡ filter (λ x. q x && p x) xs
filter-both p q [] = refl
filter-both p q (x ∷ xs) =
    elim (q x) as (λ b. filter p (cond b (x ∷ filter q xs) (filter q xs)) ≡ cond (b && p x) (x ∷ filter (λ x. q x && p x) xs) (filter (λ x. q x && p x) xs))
    [ true ↦ ap (λ l. cond (p x) (x ∷ l) l) (filter-both p q xs) | false ↦ filter-both p q xs ]

-- A filter never makes a list longer.
pub filter-shorter : {X : Type 0} (p : X → Bool) → (xs : List X) → length (filter p xs) ≤ length xs
filter-shorter p [] = omega arith
filter-shorter p (x ∷ xs) =
    let rest = filter-shorter p xs in
    elim (p x) as (λ b. length (cond b (x ∷ filter p xs) (filter p xs)) ≤ suc (length xs)) [ true ↦ omega (arith, rest) | false ↦ omega (arith, rest) ]

-- If some element passes, the list without those that pass is shorter.
pub filter-fewer : {X : Type 0} (p : X → Bool) → (xs : List X) → list_any p xs ≡ true
    → length (filter (λ x. not (p x)) xs) < length xs
filter-fewer p [] h = absurd (let e : false ≡ true = h in cc)
filter-fewer p (x ∷ xs) h =
    let few = filter-shorter (λ x. not (p x)) xs in
    (elim (p x) as (λ b. (b || list_any p xs) ≡ true → length (cond (not b) (x ∷ filter (λ x. not (p x)) xs) (filter (λ x. not (p x)) xs)) < suc (length xs)) [
      | true ↦ λ k. omega (arith, few)
      | false ↦ λ k. let lt = filter-fewer p xs k in omega (arith, lt)
    ]) h

-- As many pass in two lists together as in the first plus in the second.
pub length-filter_append : {X : Type 0} (p : X → Bool) (xs ys : List X)
    → length (filter p (xs ++ ys)) ≡ length (filter p xs) + length (filter p ys)
length-filter_append p xs ys = ap length (filter-append p xs ys) ∙ length-append (filter p xs) (filter p ys)

-- ---- a test that some element passes

-- Some element of a mapped list passes if and only if some element passes the test after the map.
pub list_any-map : {X Y : Type 0} (p : Y → Bool) (f : X → Y) → (xs : List X)
    → list_any p (map f xs) ≡ list_any (λ x. p (f x)) xs
list_any-map p f [] = refl
list_any-map p f (x ∷ xs) = ap (λ b. p (f x) || b) (list_any-map p f xs)

-- Two tests that agree on every value agree on whether some element passes.
pub list_any_agree : {X : Type 0} (p q : X → Bool) → ((x : X) → p x ≡ q x) → (xs : List X)
    → list_any p xs ≡ list_any q xs
list_any_agree p q h [] = refl
list_any_agree p q h (x ∷ xs) = ap (λ b. b || list_any p xs) (h x) ∙ ap (λ b. q x || b) (list_any_agree p q h xs)

-- If some element of the first list passes, some element of both together does.
pub list_any_left : {X : Type 0} (p : X → Bool) (xs ys : List X) → list_any p xs ≡ true → list_any p (xs ++ ys) ≡ true
list_any_left p xs ys h = list_any-append p xs ys ∙ or_left (list_any p xs) (list_any p ys) h

-- If some element of the second list passes, some element of both together does.
pub list_any_right : {X : Type 0} (p : X → Bool) (xs ys : List X) → list_any p ys ≡ true → list_any p (xs ++ ys) ≡ true
list_any_right p xs ys h = list_any-append p xs ys ∙ or_right (list_any p xs) (list_any p ys) h

-- What follows from each passing element follows if some element passes.
pub list_any_gives : {X : Type 0} (p : X → Bool) (b : Bool) → ((x : X) → p x ≡ true → b ≡ true) → (xs : List X)
    → list_any p xs ≡ true → b ≡ true
list_any_gives p b f [] h = absurd (let e : false ≡ true = h in cc)
list_any_gives p b f (x ∷ xs) h =
    elim (p x) as (λ t. p x ≡ t → (t || list_any p xs) ≡ true → b ≡ true) [ true ↦ λ e k. f x e | false ↦ λ e k. list_any_gives p b f xs k ] refl h

-- If some element passes, there is a passing one, of which all that is true of all is true.
pub some_passing : {X : Type 0} (p : X → Bool) (P : X → Type 0) → (xs : List X) → AllByRecursion P xs
    → list_any p xs ≡ true → (x : X) × (p x ≡ true) × P x
some_passing p P [] h e = absurd (let k : false ≡ true = e in cc)
some_passing {X = X} p P (x ∷ xs) h e =
    elim (p x) as (λ t. p x ≡ t → (t || list_any p xs) ≡ true → (y : X) × (p y ≡ true) × P y) [ true ↦ λ is k. (x, is, h.0) | false ↦ λ is k. some_passing p P xs h.1 k ] refl e

-- If no value passes, no element passes.
pub none_each : {X : Type 0} (p : X → Bool) → ((x : X) → p x ≡ false) → (xs : List X) → list_any p xs ≡ false
none_each p h [] = refl
none_each p h (x ∷ xs) = ap (λ b. b || list_any p xs) (h x) ∙ none_each p h xs

-- If no element passes in either list, none passes in both together.
pub none_added : {X : Type 0} (p : X → Bool) (xs ys : List X) → list_any p xs ≡ false → list_any p ys ≡ false
    → list_any p (xs ++ ys) ≡ false
none_added p xs ys h k = list_any-append p xs ys ∙ ap (λ b. b || list_any p ys) h ∙ k

-- If a change makes no element pass and none passed before, none passes after it.
pub none_changed : {X : Type 0} (p : X → Bool) (f : X → X) → ((x : X) → p x ≡ false → p (f x) ≡ false) → (xs : List X)
    → list_any p xs ≡ false → list_any p (map f xs) ≡ false
none_changed p f stays [] h = refl
none_changed p f stays (x ∷ xs) h =
    let none = or_parts (p x) (list_any p xs) h in
    ap (λ b. b || list_any p (map f xs)) (stays x none.0) ∙ none_changed p f stays xs none.1

-- If all that pass p also pass q, none passes p in the list without those that pass q.
pub none_left : {X : Type 0} (p q : X → Bool) → ((x : X) → p x ≡ true → q x ≡ true) → (xs : List X)
    → list_any p (filter (λ x. not (q x)) xs) ≡ false
none_left p q f [] = refl
none_left {X = X} p q f (x ∷ xs) =
    let rest = filter (λ x. not (q x)) xs in
    let later = none_left p q f xs in
    elim (q x) as (λ b. q x ≡ b → list_any p (cond (not b) (x ∷ rest) rest) ≡ false)
    [ true ↦ λ e. later | false ↦ λ e. ap (λ b. b || list_any p rest) (fails x e) ∙ later ] refl
  where
    fails : (x : X) → q x ≡ false → p x ≡ false
    fails x e = elim (p x) as (λ b. p x ≡ b → b ≡ false) [ true ↦ λ is. sym (f x is) ∙ e | false ↦ λ is. refl ] refl

-- If no element passes, none passes after a filter.
pub none_filtered : {X : Type 0} (p q : X → Bool) → (xs : List X) → list_any p xs ≡ false
    → list_any p (filter q xs) ≡ false
none_filtered p q [] h = refl
none_filtered p q (x ∷ xs) h =
    let none = or_parts (p x) (list_any p xs) h in
    let rest = none_filtered p q xs none.1 in
    elim (q x) as (λ b. list_any p (cond b (x ∷ filter q xs) (filter q xs)) ≡ false) [ true ↦ ap (λ b. b || list_any p (filter q xs)) none.0 ∙ rest | false ↦ rest ]

-- ---- what is true of all

-- What is true of every value is true of all elements.
pub all_each : {X : Type 0} (P : X → Type 0) → ((x : X) → P x) → (xs : List X) → AllByRecursion P xs
all_each P f [] = tt
all_each P f (x ∷ xs) = (f x, all_each P f xs)

-- If P implies Q, and P is true of all elements, so is Q.
pub all_weaker : {X : Type 0} (P Q : X → Type 0) → ((x : X) → P x → Q x) → (xs : List X) → AllByRecursion P xs
    → AllByRecursion Q xs
all_weaker P Q f [] h = tt
all_weaker P Q f (x ∷ xs) h = (f x h.0, all_weaker P Q f xs h.1)

-- If P and Q together imply R, and both are true of all elements, so is R.
pub all_both : {X : Type 0} (P Q R : X → Type 0) → ((x : X) → P x → Q x → R x) → (xs : List X) → AllByRecursion P xs
    → AllByRecursion Q xs → AllByRecursion R xs
all_both P Q R f [] h k = tt
all_both P Q R f (x ∷ xs) h k = (f x h.0 k.0, all_both P Q R f xs h.1 k.1)

-- What is true of all elements of two lists is true of all of both together.
pub all_append : {X : Type 0} (P : X → Type 0) → (xs ys : List X) → AllByRecursion P xs → AllByRecursion P ys
    → AllByRecursion P (xs ++ ys)
all_append P [] ys h k = k
all_append P (x ∷ xs) ys h k = (h.0, all_append P xs ys h.1 k)

-- What is true of all elements is true of all that a filter leaves.
pub all_filter : {X : Type 0} (P : X → Type 0) (p : X → Bool) → (xs : List X) → AllByRecursion P xs
    → AllByRecursion P (filter p xs)
all_filter P p [] h = tt
all_filter P p (x ∷ xs) h =
    elim (p x) as (λ b. AllByRecursion P (cond b (x ∷ filter p xs) (filter p xs)))
    [ true ↦ (h.0, all_filter P p xs h.1) | false ↦ all_filter P p xs h.1 ]

-- If P is true of the image of each element, it is true of all elements of the mapped list.
pub all_mapped : {X Y : Type 0} (P : Y → Type 0) (f : X → Y) → (xs : List X) → AllByRecursion (λ x. P (f x)) xs
    → AllByRecursion P (map f xs)
all_mapped P f [] h = tt
all_mapped P f (x ∷ xs) h = (h.0, all_mapped P f xs h.1)

-- If P is true of all elements of a mapped list, it is true of the image of each element.
pub all_of_map : {X Y : Type 0} (P : Y → Type 0) (f : X → Y) → (xs : List X) → AllByRecursion P (map f xs)
    → AllByRecursion (λ x. P (f x)) xs
all_of_map P f [] h = tt
all_of_map P f (x ∷ xs) h = (h.0, all_of_map P f xs h.1)

-- All that a filter leaves passes its test.
pub filter_true : {X : Type 0} (p : X → Bool) → (xs : List X) → AllByRecursion (λ x. p x ≡ true) (filter p xs)
filter_true p [] = tt
filter_true {X = X} p (x ∷ xs) =
    elim (p x) as (λ b. p x ≡ b → AllByRecursion (λ y. p y ≡ true) (cond b (x ∷ filter p xs) (filter p xs)))
    [ true ↦ λ e. (e, filter_true p xs) | false ↦ λ e. filter_true p xs ] refl

-- Rows in an order, and in any order.
use Rattle.std.proofs.Common.{◌≡◌, ℕ, suc, ◌==◌, nat_lt, nat_le, Bool, true, false, not, cond, ◌&&◌, ◌||◌, List, [], ◌∷◌, ◌++◌, map, filter, length, refl, sym, ◌∙◌, ap, arith, eq-eqb, subst, ◌⊎◌, inl, inr, ⊎_elim}
use Rattle.std.specs.List.{list_any, AllByRecursion}
use Rattle.std.proofs.lemmas.Bool.{eqb-true, lt-ltb}
use Rattle.std.proofs.lemmas.Bool.Decides.{nat_tests}
use Rattle.std.proofs.lemmas.List.{append-nil, length-map}
use Rattle.drm_index_array.specs.Orders.{SameRows, InOrder, inserted_by, sorted_by}
use Rattle.drm_index_array.proofs.Lists.{filter-map, filter-both, filter_all, all_each, all_weaker, all_append, all_filter, all_mapped}

-- ---- the same rows

-- A list has the same rows as itself.
pub same-refl : {X : Type 0} (xs : List X) → SameRows xs xs
same-refl xs = λ test. refl

-- If xs has the same rows as ys, ys has the same rows as xs.
pub same-sym : {X : Type 0} (xs ys : List X) → SameRows xs ys → SameRows ys xs
same-sym xs ys h = λ test. sym (h test)

-- Two lists with the same rows as a third have the same rows.
pub same-trans : {X : Type 0} (xs ys zs : List X) → SameRows xs ys → SameRows ys zs → SameRows xs zs
same-trans xs ys zs h k = λ test. h test ∙ k test

count-map : {X Y : Type 0} (f : X → Y) (test : Y → Bool) (zs : List X)
    → length (filter test (map f zs)) ≡ length (filter (λ x. test (f x)) zs)
count-map f test zs = ap length (filter-map test f zs) ∙ length-map (filter (λ x. test (f x)) zs) f

-- Lists with the same rows have the same rows after a map.
pub same-map : {X Y : Type 0} (f : X → Y) → (xs ys : List X) → SameRows xs ys → SameRows (map f xs) (map f ys)
same-map f xs ys h = λ test. count-map f test xs ∙ h (λ x. test (f x)) ∙ sym (count-map f test ys)

count-filter : {X : Type 0} (p test : X → Bool) (xs : List X)
    → length (filter test (filter p xs)) ≡ length (filter (λ x. p x && test x) xs)
count-filter p test xs = ap length (filter-both test p xs)

-- Lists with the same rows have the same rows after a filter.
pub same-filter : {X : Type 0} (p : X → Bool) → (xs ys : List X) → SameRows xs ys → SameRows (filter p xs) (filter p ys)
same-filter p xs ys h = λ test. count-filter p test xs ∙ h (λ x. p x && test x) ∙ sym (count-filter p test ys)

any-count : {X : Type 0} (test : X → Bool) → (xs : List X) → list_any test xs ≡ nat_lt 0 (length (filter test xs))
any-count test [] = refl
any-count test (x ∷ xs) =
    elim (test x) as (λ b. (b || list_any test xs) ≡ nat_lt 0 (length (cond b (x ∷ filter test xs) (filter test xs))))
    [ true ↦ sym (lt-ltb 0 (suc (length (filter test xs))) (omega arith)) | false ↦ any-count test xs ]

-- If two lists have the same rows, some row of one passes if and only if one of the other does.
pub same-any : {X : Type 0} (test : X → Bool) → (xs ys : List X) → SameRows xs ys → list_any test xs ≡ list_any test ys
same-any test xs ys h = any-count test xs ∙ ap (nat_lt 0) (h test) ∙ sym (any-count test ys)

-- Lists with the same rows have the same length.
pub same-length : {X : Type 0} (xs ys : List X) → SameRows xs ys → length xs ≡ length ys
same-length {X} xs ys h = let all = λ (zs : List X). let e : filter (λ x. true) zs ≡ zs = filter_all (λ x. true) zs (all_each (λ x. true ≡ true) (λ x. refl) zs) in e in ap length (sym (all xs)) ∙ h (λ x. true) ∙ ap length (all ys)

-- Lists with the same rows have the same rows with one more in front.
pub same-cons : {X : Type 0} (x : X) (xs ys : List X) → SameRows xs ys → SameRows (x ∷ xs) (x ∷ ys)
same-cons x xs ys h = λ test. elim (test x) as (λ b. length (cond b (x ∷ filter test xs) (filter test xs)) ≡ length (cond b (x ∷ filter test ys) (filter test ys))) [ true ↦ ap (λ n. suc n) (h test) | false ↦ h test ]

-- The rows stay the same if the first two change places.
pub same-swap : {X : Type 0} (x y : X) (xs : List X) → SameRows (x ∷ y ∷ xs) (y ∷ x ∷ xs)
same-swap x y xs = λ test. elim (test x) as (λ b. length (cond b (x ∷ cond (test y) (y ∷ filter test xs) (filter test xs)) (cond (test y) (y ∷ filter test xs) (filter test xs))) ≡ length (cond (test y) (y ∷ cond b (x ∷ filter test xs) (filter test xs)) (cond b (x ∷ filter test xs) (filter test xs)))) [
  | true ↦ elim (test y) as (λ d. length (x ∷ cond d (y ∷ filter test xs) (filter test xs)) ≡ length (cond d (y ∷ x ∷ filter test xs) (x ∷ filter test xs))) [ true ↦ refl | false ↦ refl ]
  | false ↦ refl
]

-- The rows stay the same if the first moves to any place.
pub moved_in : {X : Type 0} (x : X) → (xs ys : List X) → SameRows (x ∷ (xs ++ ys)) (xs ++ x ∷ ys)
moved_in x [] ys = λ test. refl
moved_in x (y ∷ xs) ys =
    same-trans (x ∷ y ∷ (xs ++ ys)) (y ∷ x ∷ (xs ++ ys)) (y ∷ (xs ++ x ∷ ys)) (same-swap x y (xs ++ ys))
    (same-cons y (x ∷ (xs ++ ys)) (xs ++ x ∷ ys) (moved_in x xs ys))

-- A list has the same rows as those that pass and those that do not together.
pub same_parts : {X : Type 0} (p : X → Bool) → (xs : List X) → SameRows xs (filter p xs ++ filter (λ x. not (p x)) xs)
same_parts p [] = λ test. refl
same_parts {X = X} p (x ∷ xs) =
    let yes_part = filter p xs in
    let no_part = filter (λ x. not (p x)) xs in
    elim (p x) as (λ b. SameRows (x ∷ xs) (cond b (x ∷ yes_part) yes_part ++ cond (not b) (x ∷ no_part) no_part)) [
      | true ↦ same-cons x xs (yes_part ++ no_part) (same_parts p xs)
      | false ↦ same-trans (x ∷ xs) (x ∷ (yes_part ++ no_part)) (yes_part ++ x ∷ no_part) (same-cons x xs (yes_part ++ no_part) (same_parts p xs)) (moved_in x yes_part no_part)
    ]

-- The rows stay the same if the last one moves to the front.
pub last_first : {X : Type 0} (xs : List X) (x : X) → SameRows (xs ++ x ∷ []) (x ∷ xs)
last_first xs x =
    subst (λ l. SameRows (xs ++ x ∷ []) (x ∷ l)) (append-nil xs)
    (same-sym (x ∷ (xs ++ [])) (xs ++ x ∷ []) (moved_in x xs []))

-- ---- rows in an order

-- A filter leaves rows in their order.
pub in_order_filter : {X : Type 0} (before : X → X → Type 0) (p : X → Bool) → (xs : List X) → InOrder before xs
    → InOrder before (filter p xs)
in_order_filter before p [] h = tt
in_order_filter before p (x ∷ xs) h =
    elim (p x) as (λ b. InOrder before (cond b (x ∷ filter p xs) (filter p xs)))
    [ true ↦ (all_filter (before x) p xs h.0, in_order_filter before p xs h.1) | false ↦ in_order_filter before p xs h.1 ]

-- Rows in order stay in order with one more at the end that all of them are before.
pub in_order_append : {X : Type 0} (before : X → X → Type 0) → (xs : List X) (y : X) → InOrder before xs
    → AllByRecursion (λ x. before x y) xs → InOrder before (xs ++ y ∷ [])
in_order_append before [] y h k = (tt, tt)
in_order_append before (x ∷ xs) y h k =
    (all_append (before x) xs (y ∷ []) h.0 (k.0, tt), in_order_append before xs y h.1 k.1)

-- Mapped rows are in order if the rows are in the order of their images.
pub in_order_map : {X Y : Type 0} (before : Y → Y → Type 0) (f : X → Y) → (xs : List X)
    → InOrder (λ x y. before (f x) (f y)) xs → InOrder before (map f xs)
in_order_map before f [] h = tt
in_order_map before f (x ∷ xs) h = (all_mapped (before (f x)) f xs h.0, in_order_map before f xs h.1)

-- Rows in one order are also in any order that this one implies.
pub in_order_weaker : {X : Type 0} (before after : X → X → Type 0) → ((x y : X) → before x y → after x y)
    → (xs : List X) → InOrder before xs → InOrder after xs
in_order_weaker before after f [] h = tt
in_order_weaker before after f (x ∷ xs) h =
    (all_weaker (before x) (after x) (f x) xs h.0, in_order_weaker before after f xs h.1)

-- ---- rows that are sorted

-- an order by a test: of two rows one may are before the other, and `is` says whether they are the same
pub record IsOrder {X : Type 0} (before is : X → X → Bool) : Type 0 where
  pub total : (x y : X) → before x y ≡ false → before y x ≡ true
  pub trans : (x y z : X) → before x y ≡ true → before y z ≡ true → before x z ≡ true
  pub itself : (x : X) → is x x ≡ true
  pub same : (x y : X) → is x y ≡ true → x ≡ y

-- x is before y and y not before x
abbrev pub RisesTo : {X : Type 0} → (X → X → Bool) → X → X → Type 0
RisesTo before x y = (before x y ≡ true) × (before y x ≡ false)

abbrev Sorted : {X : Type 0} → (X → X → Bool) → List X → Type 0
Sorted before xs = InOrder (λ x y. before x y ≡ true) xs

inserted-first : {X : Type 0} (before : X → X → Bool) (x : X) → (xs : List X)
    → AllByRecursion (λ y. before x y ≡ true) xs → inserted_by before x xs ≡ x ∷ xs
inserted-first before x [] h = refl
inserted-first before x (y ∷ ys) h = ap (λ b. cond b (x ∷ y ∷ ys) (y ∷ inserted_by before x ys)) h.0

-- Sorting leaves sorted rows unchanged.
pub sorted-as_is : {X : Type 0} (before : X → X → Bool) → (xs : List X) → InOrder (λ x y. before x y ≡ true) xs
    → sorted_by before xs ≡ xs
unfolding sorted_by
sorted-as_is before [] h = refl
sorted-as_is before (x ∷ xs) h = ap (inserted_by before x) (sorted-as_is before xs h.1) ∙ inserted-first before x xs h.0

all_inserted : {X : Type 0} (before : X → X → Bool) (P : X → Type 0) (x : X) → (ys : List X) → P x → AllByRecursion P ys
    → AllByRecursion P (inserted_by before x ys)
all_inserted before P x [] p h = (p, tt)
all_inserted before P x (y ∷ ys) p h =
    elim (before x y) as (λ b. AllByRecursion P (cond b (x ∷ y ∷ ys) (y ∷ inserted_by before x ys)))
    [ true ↦ (p, h) | false ↦ (h.0, all_inserted before P x ys p h.1) ]

inserted-in_order : {X : Type 0} (before is : X → X → Bool) (order : IsOrder before is) (x : X) → (ys : List X)
    → Sorted before ys → Sorted before (inserted_by before x ys)
inserted-in_order before is order x [] h = (tt, tt)
inserted-in_order before is order x (y ∷ ys) h =
    elim (before x y) as (λ b. before x y ≡ b → Sorted before (cond b (x ∷ y ∷ ys) (y ∷ inserted_by before x ys))) [
      | true ↦ λ e. ((e, all_weaker (λ z. before y z ≡ true) (λ z. before x z ≡ true) (λ z k. order.trans x y z e k) ys h.0), h)
      | false ↦ λ e. (all_inserted before (λ z. before y z ≡ true) x ys (order.total x y e) h.0, inserted-in_order before is order x ys h.1)
    ] refl

sorted-in_order : {X : Type 0} (before is : X → X → Bool) (order : IsOrder before is) → (xs : List X)
    → Sorted before (sorted_by before xs)
unfolding sorted_by
sorted-in_order before is order [] = tt
sorted-in_order before is order (x ∷ xs) =
    inserted-in_order before is order x (sorted_by before xs) (sorted-in_order before is order xs)

ahead : {X : Type 0} (b : Bool) (x : X) (us vs : List X) → length us ≡ length vs
    → length (cond b (x ∷ us) us) ≡ length (cond b (x ∷ vs) vs)
ahead true x us vs h = ap (λ n. suc n) h
ahead false x us vs h = h

behind : {X : Type 0} (b c : Bool) (x y : X) (us vs : List X) → length us ≡ length (cond b (x ∷ vs) vs)
    → length (cond c (y ∷ us) us) ≡ length (cond b (x ∷ cond c (y ∷ vs) vs) (cond c (y ∷ vs) vs))
behind true true x y us vs h = ap (λ n. suc n) h
behind true false x y us vs h = h
behind false true x y us vs h = ap (λ n. suc n) h
behind false false x y us vs h = h

count-inserted : {X : Type 0} (before : X → X → Bool) (test : X → Bool) (x : X) → (ys : List X)
    → length (filter test (inserted_by before x ys)) ≡ length (filter test (x ∷ ys))
count-inserted before test x [] = refl
count-inserted before test x (y ∷ ys) =
    elim (before x y) as (λ b. length (filter test (cond b (x ∷ y ∷ ys) (y ∷ inserted_by before x ys))) ≡ length (filter test (x ∷ y ∷ ys))) [
      | true ↦ refl
      | false ↦ behind (test x) (test y) x y (filter test (inserted_by before x ys)) (filter test ys) (count-inserted before test x ys)
    ]

same-sorted : {X : Type 0} (before : X → X → Bool) → (xs : List X) → SameRows (sorted_by before xs) xs
unfolding sorted_by
same-sorted before [] = λ test. refl
same-sorted before (x ∷ xs) =
    λ test. count-inserted before test x (sorted_by before xs)
    ∙ ahead (test x) x (filter test (sorted_by before xs)) (filter test xs) (same-sorted before xs test)

all_pass : {X : Type 0} (xs : List X) → filter (λ x. true) xs ≡ xs
all_pass [] = refl
all_pass (x ∷ xs) = ap (λ l. x ∷ l) (all_pass xs)

-- Sorting keeps the number of rows.
pub length-sorted : {X : Type 0} (before : X → X → Bool) (xs : List X) → length (sorted_by before xs) ≡ length xs
length-sorted before xs =
    sym (ap length (all_pass (sorted_by before xs))) ∙ same-sorted before xs (λ x. true) ∙ ap length (all_pass xs)

-- ---- rows that rise are reported by which rows they are

found_in : {X : Type 0} (before is : X → X → Bool) (order : IsOrder before is) (P : X → Type 0) (x : X) → (ys : List X)
    → AllByRecursion P ys → list_any (is x) ys ≡ true → P x
found_in before is order P x [] h k = absurd (let e : false ≡ true = k in cc)
found_in before is order P x (y ∷ ys) h k =
    elim (is x y) as (λ b. is x y ≡ b → (b || list_any (is x) ys) ≡ true → P x)
    [ true ↦ λ e j. subst P (sym (order.same x y e)) h.0 | false ↦ λ e j. found_in before is order P x ys h.1 j ] refl k

-- a row is the first, or what holds of the rest holds of it
found : {X : Type 0} (before is : X → X → Bool) (order : IsOrder before is) (P : X → Type 0) (x y : X) → (ys : List X)
    → AllByRecursion P ys → list_any (is x) (y ∷ ys) ≡ true → (x ≡ y) ⊎ P x
found before is order P x y ys h k =
    elim (is x y) as (λ b. is x y ≡ b → (b || list_any (is x) ys) ≡ true → (x ≡ y) ⊎ P x)
    [ true ↦ λ e j. inl (order.same x y e) | false ↦ λ e j. inr (found_in before is order P x ys h j) ] refl k

same_head : {X : Type 0} (before is : X → X → Bool) (order : IsOrder before is) (x y : X) (xs ys : List X)
    → AllByRecursion (λ z. before x z ≡ true) xs → AllByRecursion (RisesTo before y) ys → SameRows (x ∷ xs) (y ∷ ys)
    → x ≡ y
same_head {X = X} before is order x y xs ys h k same =
    let x_there : list_any (is x) (y ∷ ys) ≡ true =
    sym (same-any (is x) (x ∷ xs) (y ∷ ys) same) ∙ ap (λ b. b || list_any (is x) xs) (order.itself x) in
    let y_there : list_any (is y) (x ∷ xs) ≡ true =
    same-any (is y) (x ∷ xs) (y ∷ ys) same ∙ ap (λ b. b || list_any (is y) ys) (order.itself y) in
    ⊎_elim (λ e. e)
    (λ (r : RisesTo before y x). ⊎_elim (λ e. sym e) (λ (b : before x y ≡ true). absurd (let e : false ≡ true = sym r.1 ∙ b in cc)) (found before is order (λ z. before x z ≡ true) y x xs h y_there))
    (found before is order (RisesTo before y) x y ys k x_there)

without : {X : Type 0} (b : Bool) (x : X) (us vs : List X) → length (cond b (x ∷ us) us) ≡ length (cond b (x ∷ vs) vs)
    → length us ≡ length vs
without true x us vs h = let e : suc (length us) ≡ suc (length vs) = h in omega (arith, e)
without false x us vs h = h

same_tail : {X : Type 0} (x : X) (xs ys : List X) → SameRows (x ∷ xs) (x ∷ ys) → SameRows xs ys
same_tail x xs ys h = λ test. without (test x) x (filter test xs) (filter test ys) (h test)

rising-unique : {X : Type 0} (before is : X → X → Bool) (order : IsOrder before is) → (xs ys : List X)
    → Sorted before xs → InOrder (RisesTo before) ys → SameRows xs ys → xs ≡ ys
rising-unique before is order [] [] h k same = refl
rising-unique before is order [] (y ∷ ys) h k same = absurd (let e : 0 ≡ suc _ = same (λ z. true) in cc)
rising-unique before is order (x ∷ xs) [] h k same = absurd (let e : suc _ ≡ 0 = same (λ z. true) in cc)
rising-unique before is order (x ∷ xs) (y ∷ ys) h k same =
    let e : x ≡ y = same_head before is order x y xs ys h.0 k.0 same in
    let same' : SameRows (x ∷ xs) (x ∷ ys) = subst (λ z. SameRows (x ∷ xs) (z ∷ ys)) (sym e) same in
    ap (λ z. z ∷ xs) e ∙ ap (λ zs. y ∷ zs) (rising-unique before is order xs ys h.1 k.1 (same_tail x xs ys same'))

-- Sorting rows returns any rising list with the same rows.
pub sorted-same : {X : Type 0} (before is : X → X → Bool) (order : IsOrder before is) (xs ys : List X)
    → InOrder (RisesTo before) ys → SameRows xs ys → sorted_by before xs ≡ ys
sorted-same before is order xs ys h same =
    rising-unique before is order (sorted_by before xs) ys (sorted-in_order before is order xs) h
    (same-trans (sorted_by before xs) xs ys (same-sorted before xs) same)

-- ---- numbers

le-total : (x y : ℕ) → nat_le x y ≡ false → nat_le y x ≡ true
le-total x y h = grind (arith, nat_tests)

le-trans : (x y z : ℕ) → nat_le x y ≡ true → nat_le y z ≡ true → nat_le x z ≡ true
le-trans x y z h k = grind (arith, nat_tests)

-- "At most" is an order of numbers, with equality as its test of sameness.
pub order_of_numbers : IsOrder nat_le (λ x y. x == y)
order_of_numbers =
    record { total = le-total; trans = le-trans; itself = λ x. eq-eqb x x refl; same = λ x y h. eqb-true x y h }

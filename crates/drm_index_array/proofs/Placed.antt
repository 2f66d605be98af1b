-- One more row at its place: after those that pass a test.
use Rattle.std.proofs.Common.{◌≡◌, ℕ, suc, ◌<◌, ◌==◌, nat_lt, Bool, true, false, not, cond, ◌||◌, List, [], ◌∷◌, ◌++◌, filter, find, length, Some, refl, sym, ap, subst, ◌∙◌, arith}
use Rattle.std.specs.List.{list_any, AllByRecursion}
use Rattle.std.proofs.lemmas.Bool.Decides.{nat_tests}
use Rattle.drm_index_array.specs.Orders.{SameRows, InOrder}
use Rattle.drm_index_array.proofs.Lists.{all_weaker, all_both, all_append, all_filter, filter_all, filter_true}
use Rattle.drm_index_array.proofs.Each.{filter_none}
use Rattle.drm_index_array.proofs.Orders.{same-trans, same-any, same-length, same-cons, same_parts, moved_in}

abbrev pub placed_by : {X : Type 0} → (X → Bool) → X → List X → List X
placed_by p y xs = filter p xs ++ y ∷ filter (λ x. not (p x)) xs

-- ---- in any order

-- A row put at its place adds this row and changes no other.
pub same_placed : {X : Type 0} (p : X → Bool) (y : X) (xs : List X) → SameRows (y ∷ xs) (placed_by p y xs)
same_placed p y xs =
    let front = filter p xs in
    let behind = filter (λ x. not (p x)) xs in
    same-trans (y ∷ xs) (y ∷ (front ++ behind)) (front ++ y ∷ behind)
    (same-cons y xs (front ++ behind) (same_parts p xs)) (moved_in y front behind)

-- After one is put at its place, some row passes if and only if this one or another does.
pub any_placed : {X : Type 0} (q p : X → Bool) (y : X) (xs : List X)
    → list_any q (placed_by p y xs) ≡ (q y || list_any q xs)
any_placed q p y xs = sym (same-any q (y ∷ xs) (placed_by p y xs) (same_placed p y xs))

-- One row put at its place makes the list longer by one.
pub length_placed : {X : Type 0} (p : X → Bool) (y : X) (xs : List X) → length (placed_by p y xs) ≡ suc (length xs)
length_placed p y xs = sym (same-length (y ∷ xs) (placed_by p y xs) (same_placed p y xs))

-- What is true of a row and of all others is true of all after it is put at its place.
pub all_placed : {X : Type 0} (P : X → Type 0) (p : X → Bool) (y : X) (xs : List X) → P y → AllByRecursion P xs
    → AllByRecursion P (placed_by p y xs)
all_placed P p y xs h k =
    all_append P (filter p xs) (y ∷ filter (λ x. not (p x)) xs) (all_filter P p xs k)
    (h, all_filter P (λ x. not (p x)) xs k)

-- If the new row passes and no other does, it is found.
pub find_placed : {X : Type 0} (q p : X → Bool) (y : X) (xs : List X) → q y ≡ true
    → AllByRecursion (λ x. q x ≡ false) xs → find q (placed_by p y xs) ≡ Some y
find_placed {X} q p y xs h none = behind_none (filter p xs) (all_filter (λ x. q x ≡ false) p xs none)
  where
    behind_none : (zs : List X) → AllByRecursion (λ z. q z ≡ false) zs
        → find q (zs ++ y ∷ filter (λ x. not (p x)) xs) ≡ Some y
    behind_none [] k = ap (λ b. cond b (Some y) (find q (filter (λ x. not (p x)) xs))) h
    behind_none (z ∷ zs) k =
        ap (λ b. cond b (Some z) (find q (zs ++ y ∷ filter (λ x. not (p x)) xs))) k.0 ∙ behind_none zs k.1

-- If all rows pass, the place of the new row is the end.
pub placed_last : {X : Type 0} (p : X → Bool) (y : X) (xs : List X) → AllByRecursion (λ x. p x ≡ true) xs
    → placed_by p y xs ≡ xs ++ y ∷ []
placed_last p y xs h =
    λ i. filter_all p xs h i ++ y ∷ filter_none (λ x. not (p x)) xs
    (all_weaker (λ x. p x ≡ true) (λ x. not (p x) ≡ false) (λ x e. ap not e) xs h) i

-- ---- in order

-- between two parts of a list
find_between : {X : Type 0} (q : X → Bool) (y : X) (behind : List X) → q y ≡ false → (front : List X)
    → find q (front ++ y ∷ behind) ≡ find q (front ++ behind)
find_between q y behind h [] = ap (λ b. cond b (Some y) (find q behind)) h
find_between q y behind h (x ∷ front) = ap (λ o. cond (q x) (Some x) o) (find_between q y behind h front)

filter_between : {X : Type 0} (q : X → Bool) (y : X) (behind : List X) → q y ≡ false → (front : List X)
    → filter q (front ++ y ∷ behind) ≡ filter q (front ++ behind)
filter_between q y behind h [] = ap (λ b. cond b (y ∷ filter q behind) (filter q behind)) h
filter_between q y behind h (x ∷ front) = ap (λ l. cond (q x) (x ∷ l) l) (filter_between q y behind h front)

all_between : {X : Type 0} (P : X → Type 0) (y : X) (behind : List X) → P y → (front : List X)
    → AllByRecursion P (front ++ behind) → AllByRecursion P (front ++ y ∷ behind)
all_between P y behind h [] k = (h, k)
all_between P y behind h (x ∷ front) k = (k.0, all_between P y behind h front k.1)

in_order_between : {X : Type 0} (R : X → X → Type 0) (y : X) (behind : List X) → AllByRecursion (λ z. R y z) behind
    → (front : List X) → AllByRecursion (λ x. R x y) front → InOrder R (front ++ behind)
    → InOrder R (front ++ y ∷ behind)
in_order_between R y behind h [] k o = (h, o)
in_order_between R y behind h (x ∷ front) k o =
    (all_between (R x) y behind k.0 front o.0, in_order_between R y behind h front k.1 o.1)

-- rows that rise by a number, and one more at its place
module _ {X : Type 0} (f : X → ℕ) (y : X) where
  abbrev comes_before : X → Bool
  comes_before x = nat_lt (f x) (f y)

  abbrev pub placed_at : List X → List X
  placed_at xs = placed_by (λ x. nat_lt (f x) (f y)) y xs

  rejoined : (xs : List X) → InOrder (λ (x z : X). f x < f z) xs
      → filter comes_before xs ++ filter (λ x. not (comes_before x)) xs ≡ xs
  rejoined [] o = refl
  rejoined (x ∷ xs) o =
      elim (comes_before x) as (λ b. comes_before x ≡ b → cond b (x ∷ filter comes_before xs) (filter comes_before xs) ++ cond (not b) (x ∷ filter (λ z. not (comes_before z)) xs) (filter (λ z. not (comes_before z)) xs) ≡ x ∷ xs) [
        | true ↦ λ e. ap (λ l. x ∷ l) (rejoined xs o.1)
        | false ↦ λ e.
            let above : AllByRecursion (λ z. comes_before z ≡ false) xs =
            all_weaker (λ z. f x < f z) (λ z. comes_before z ≡ false) (λ z lt. stays x z e lt) xs o.0 in
            λ i. filter_none comes_before xs above i ++ x ∷ filter_all (λ z. not (comes_before z)) xs
            (all_weaker (λ z. comes_before z ≡ false) (λ z. not (comes_before z) ≡ true) (λ z k. ap not k) xs above) i
      ] refl
    where
      stays : (x z : X) → nat_lt (f x) (f y) ≡ false → f x < f z → nat_lt (f z) (f y) ≡ false
      stays x z e lt = grind (arith, nat_tests)

  module _ (xs : List X) (rise : InOrder (λ (x z : X). f x < f z) xs) where
    -- A search that the new row fails finds the same as before.
    pub find_other : (q : X → Bool) → q y ≡ false → find q (placed_at xs) ≡ find q xs
    find_other q h =
        find_between q y (filter (λ x. not (comes_before x)) xs) h (filter comes_before xs)
        ∙ ap (find q) (rejoined xs rise)

    -- A filter that fails only the new row removes it again.
    pub placed_back : (q : X → Bool) → q y ≡ false → AllByRecursion (λ x. q x ≡ true) xs → filter q (placed_at xs) ≡ xs
    placed_back q h all =
        filter_between q y (filter (λ x. not (comes_before x)) xs) h (filter comes_before xs)
        ∙ ap (filter q) (rejoined xs rise) ∙ filter_all q xs all

    -- Rows in order stay in order with a new one that fits those before it and those after it.
    pub in_order_placed : (R : X → X → Type 0) → InOrder R xs → AllByRecursion (λ x. f x < f y → R x y) xs
        → AllByRecursion (λ x. nat_lt (f x) (f y) ≡ false → R y x) xs → InOrder R (placed_at xs)
    in_order_placed R o fore after =
        in_order_between R y (filter (λ x. not (comes_before x)) xs)
        (all_both (λ x. not (comes_before x) ≡ true) (λ x. nat_lt (f x) (f y) ≡ false → R y x) (λ x. R y x) (λ x e g. g (sym (twice (comes_before x)) ∙ ap not e)) (filter (λ x. not (comes_before x)) xs) (filter_true (λ x. not (comes_before x)) xs) (all_filter (λ x. nat_lt (f x) (f y) ≡ false → R y x) (λ x. not (comes_before x)) xs after))
        (filter comes_before xs)
        (all_both (λ x. comes_before x ≡ true) (λ x. f x < f y → R x y) (λ x. R x y) (λ x e g. g (less x e)) (filter comes_before xs) (filter_true comes_before xs) (all_filter (λ x. f x < f y → R x y) comes_before xs fore))
        (subst (InOrder R) (sym (rejoined xs rise)) o)
      where
        twice : (b : Bool) → not (not b) ≡ b
        twice true = refl
        twice false = refl

        less : (x : X) → nat_lt (f x) (f y) ≡ true → f x < f y
        less x e = grind (arith, nat_tests)

    -- Rows that rise by their numbers still rise with a new row whose number none has.
    pub rise_placed : AllByRecursion (λ x. (f x == f y) ≡ false) xs → InOrder (λ (x z : X). f x < f z) (placed_at xs)
    rise_placed apart =
        in_order_placed (λ x z. f x < f z) rise
        (all_weaker (λ x. (f x == f y) ≡ false) (λ x. f x < f y → f x < f y) (λ x e lt. lt) xs apart)
        (all_weaker (λ x. (f x == f y) ≡ false) (λ x. nat_lt (f x) (f y) ≡ false → f y < f x) (λ x e k. greater x e k) xs apart)
      where
        greater : (x : X) → (f x == f y) ≡ false → nat_lt (f x) (f y) ≡ false → f y < f x
        greater x e k = grind (arith, nat_tests)

-- Lists that rise by a number of their elements, each of which is found by it.
use Rattle.std.proofs.Common.{◌≡◌, ℕ, ◌<◌, ◌==◌, Bool, true, false, not, cond, ◌||◌, List, [], ◌∷◌, ◌++◌, map, filter, find, None, Some, refl, sym, ap, subst, ◌∙◌, eq-eqb}
use Rattle.std.specs.List.{list_any, AllByRecursion}
use Rattle.std.proofs.lemmas.Bool.{eqb-true, or_right}
use Rattle.drm_index_array.specs.Orders.{InOrder}
use Rattle.drm_index_array.proofs.Lists.{all_both, all_weaker, all_mapped}
use Rattle.drm_index_array.proofs.Numbers.{less-differ}
use Rattle.drm_index_array.proofs.Orders.{in_order_map, in_order_weaker}

-- The element that is found passes, and what is true of all is true of it.
pub found : {X : Type 0} (p : X → Bool) (P : X → Type 0) (x : X) → (xs : List X) → AllByRecursion P xs
    → find p xs ≡ Some x → (p x ≡ true) × P x
found p P x [] h e = absurd (let n : None ≡ Some x = e in cc)
found {X = X} p P x (y ∷ ys) h e =
    (elim (p y) as (λ b. p y ≡ b → cond b (Some y) (find p ys) ≡ Some x → (p x ≡ true) × P x) [
      | true ↦ λ is k. it (let s : Some y ≡ Some x = k in cc) is h.0
      | false ↦ λ is k. found p P x ys h.1 k
    ]) refl e
  where
    it : y ≡ x → p y ≡ true → P y → (p x ≡ true) × P x
    it same is here = (ap p (sym same) ∙ is, subst P same here)

-- If the element that is found passes another test, some element passes that test.
pub any_found : {X : Type 0} (p q : X → Bool) (x : X) → (xs : List X) → find p xs ≡ Some x → q x ≡ true
    → list_any q xs ≡ true
any_found p q x [] e h = absurd (let n : None ≡ Some x = e in cc)
any_found p q x (y ∷ ys) e h =
    (elim (p y) as (λ b. cond b (Some y) (find p ys) ≡ Some x → (q y || list_any q ys) ≡ true) [
      | true ↦ λ k. ap (λ z. q z || list_any q ys) (let s : y ≡ x = cc in s) ∙ ap (λ b. b || list_any q ys) h
      | false ↦ λ k. or_right (q y) (list_any q ys) (any_found p q x ys k h)
    ]) e

-- If p implies q on all elements, and some element passes p, some element passes q.
pub any_more : {X : Type 0} (P : X → Type 0) (p q : X → Bool) → ((x : X) → P x → p x ≡ true → q x ≡ true)
    → (xs : List X) → AllByRecursion P xs → list_any p xs ≡ true → list_any q xs ≡ true
any_more P p q f [] h e = e
any_more P p q f (x ∷ xs) h e =
    (elim (p x) as (λ b. p x ≡ b → (b || list_any p xs) ≡ true → (q x || list_any q xs) ≡ true) [
      | true ↦ λ is k. ap (λ b. b || list_any q xs) (f x h.0 is)
      | false ↦ λ is k. or_right (q x) (list_any q xs) (any_more P p q f xs h.1 k)
    ]) refl e

-- Rows in order stay in order after a map that keeps the order of each two.
pub in_order_kept : {X : Type 0} (R : X → X → Type 0) (g : X → X) → ((x y : X) → R x y → R (g x) (g y)) → (xs : List X)
    → InOrder R xs → InOrder R (map g xs)
in_order_kept R g keeps xs h = in_order_map R g xs (in_order_weaker R (λ x y. R (g x) (g y)) keeps xs h)

-- If a map turns each two rows in order into two in another order, the mapped rows are in that one.
pub in_order_mapped : {X : Type 0} (P : X → Type 0) (R S : X → X → Type 0) (g : X → X)
    → ((x y : X) → P x → P y → R x y → S (g x) (g y)) → (xs : List X) → AllByRecursion P xs → InOrder R xs
    → InOrder S (map g xs)
in_order_mapped P R S g keeps [] h k = tt
in_order_mapped P R S g keeps (x ∷ xs) h k =
    (all_mapped (S (g x)) g xs (all_both P (R x) (λ y. S (g x) (g y)) (λ y p r. keeps x y h.0 p r) xs h.1 k.0), in_order_mapped P R S g keeps xs h.1 k.1)

-- Rows in two orders are in both at once.
pub in_order_both : {X : Type 0} (R S : X → X → Type 0) → (xs : List X) → InOrder R xs → InOrder S xs
    → InOrder (λ x y. R x y × S x y) xs
in_order_both R S [] h k = tt
in_order_both R S (x ∷ xs) h k =
    (all_both (R x) (S x) (λ y. R x y × S x y) (λ y r s. (r, s)) xs h.0 k.0, in_order_both R S xs h.1 k.1)

-- If no removed element passes, some element that is left passes if one of all did.
pub any_left : {X : Type 0} (P : X → Type 0) (p q : X → Bool) → ((x : X) → P x → p x ≡ true → q x ≡ false)
    → (xs : List X) → AllByRecursion P xs → list_any q xs ≡ true → list_any q (filter (λ x. not (p x)) xs) ≡ true
any_left P p q f [] all h = h
any_left P p q f (x ∷ xs) all h =
    let rest = filter (λ x. not (p x)) xs in
    (elim (p x) as (λ b. p x ≡ b → list_any q (cond (not b) (x ∷ rest) rest) ≡ true) [
      | true ↦ λ e. any_left P p q f xs all.1 (sym (ap (λ b. b || list_any q xs) (f x all.0 e)) ∙ h)
      | false ↦ λ e. (elim (q x) as (λ b. (b || list_any q xs) ≡ true → (b || list_any q rest) ≡ true) [ true ↦ λ k. refl | false ↦ λ k. any_left P p q f xs all.1 k ]) h
    ]) refl

-- Each element's number is that of some element.
pub each_is_there : {X : Type 0} (f : X → ℕ) → (xs : List X)
    → AllByRecursion (λ x. list_any (λ y. f y == f x) xs ≡ true) xs
each_is_there f [] = tt
each_is_there f (x ∷ xs) =
    (ap (λ b. b || list_any (λ y. f y == f x) xs) (eq-eqb (f x) (f x) refl), all_weaker (λ y. list_any (λ z. f z == f y) xs ≡ true) (λ y. list_any (λ z. f z == f y) (x ∷ xs) ≡ true) (λ y h. or_right (f x == f y) (list_any (λ z. f z == f y) xs) h) xs (each_is_there f xs))

module _ {X : Type 0} (f : X → ℕ) where
  abbrev pub is_at : ℕ → X → Bool
  is_at n x = f x == n

  abbrev pub Rising : List X → Type 0
  Rising xs = InOrder (λ x y. f x < f y) xs

  -- If the numbers of the elements differ, each element is found by its number.
  pub all_found_apart : (xs : List X) → InOrder (λ x y. (f x == f y) ≡ false) xs
      → AllByRecursion (λ x. find (is_at (f x)) xs ≡ Some x) xs
  all_found_apart [] h = tt
  all_found_apart (x ∷ xs) h = (
    ap (λ b. cond b (Some x) (find (is_at (f x)) xs)) (eq-eqb (f x) (f x) refl),
    all_both (λ y. find (is_at (f y)) xs ≡ Some y) (λ y. (f x == f y) ≡ false)
        (λ y. find (is_at (f y)) (x ∷ xs) ≡ Some y)
        (λ y e apart. ap (λ b. cond b (Some x) (find (is_at (f y)) xs)) apart ∙ e) xs (all_found_apart xs h.1) h.0,
  )

  -- If the numbers of the elements rise, each element is found by its number.
  pub all_found : (xs : List X) → Rising xs → AllByRecursion (λ x. find (is_at (f x)) xs ≡ Some x) xs
  all_found [] h = tt
  all_found (x ∷ xs) h = (
    ap (λ b. cond b (Some x) (find (is_at (f x)) xs)) (eq-eqb (f x) (f x) refl),
    all_both (λ y. find (is_at (f y)) xs ≡ Some y) (λ y. f x < f y) (λ y. find (is_at (f y)) (x ∷ xs) ≡ Some y)
        (λ y e lt. ap (λ b. cond b (Some x) (find (is_at (f y)) xs)) (less-differ (f x) (f y) lt) ∙ e) xs (all_found xs h.1)
        h.0,
  )

  -- After a filter by number, an element is found by its number if the number passes.
  pub find_where : (t : ℕ → Bool) (n : ℕ) → (xs : List X)
      → find (is_at n) (filter (λ x. t (f x)) xs) ≡ cond (t n) (find (is_at n) xs) None
  find_where t n [] = nowhere (t n)
    where
      nowhere : (b : Bool) → find (is_at n) [] ≡ cond b (find (is_at n) []) None
      nowhere true = refl
      nowhere false = refl
  find_where t n (x ∷ xs) =
      let rest = filter (λ x. t (f x)) xs in
      (elim (f x == n) as (λ b. (f x == n) ≡ b → find (is_at n) (cond (t (f x)) (x ∷ rest) rest) ≡ cond (t n) (cond b (Some x) (find (is_at n) xs)) None) [
        | true ↦ λ e.
            ap (λ m. find (is_at n) (cond (t m) (x ∷ rest) rest)) (eqb-true (f x) n e)
            ∙ elim (t n) as (λ b. t n ≡ b → find (is_at n) (cond b (x ∷ rest) rest) ≡ cond b (Some x) None) [
              | true ↦ λ k. ap (λ b. cond b (Some x) (find (is_at n) rest)) e
              | false ↦ λ k. find_where t n xs ∙ ap (λ b. cond b (find (is_at n) xs) None) k
            ] refl
        | false ↦ λ e.
            elim (t (f x)) as (λ b. find (is_at n) (cond b (x ∷ rest) rest) ≡ cond (t n) (find (is_at n) xs) None) [
              | true ↦ ap (λ b. cond b (Some x) (find (is_at n) rest)) e ∙ find_where t n xs
              | false ↦ find_where t n xs
            ]
      ]) refl

  -- One more element with another number does not change what is found.
  pub find_more : (y : X) (n : ℕ) → (f y == n) ≡ false → (xs : List X)
      → find (is_at n) (xs ++ y ∷ []) ≡ find (is_at n) xs
  find_more y n h [] = ap (λ b. cond b (Some y) None) h
  find_more y n h (x ∷ xs) = ap (λ r. cond (f x == n) (Some x) r) (find_more y n h xs)

-- Lists of which some elements are removed, the others are changed, and new ones are added at the end.
use Rattle.std.proofs.Common.{◌≡◌, ◌+◌, ◌≤◌, Bool, true, false, List, [], ◌∷◌, ◌++◌, map, filter, length, length-append, Option, None, Some, refl, sym, ap, ◌∙◌, arith, append-nil}
use Rattle.std.specs.Prelude.{if◌then◌else◌, IfSome}
use Rattle.std.specs.List.{list_any, AllByRecursion}
use Rattle.std.proofs.lemmas.List.{length-map}
use Rattle.drm_index_array.specs.Orders.{InOrder}
use Rattle.drm_index_array.proofs.Lists.{filter-shorter, list_any_left, none_added, none_changed, none_filtered, all_each, all_both, all_append, all_filter, all_mapped, filter_true}
use Rattle.drm_index_array.proofs.Each.{any_filter, any_mapped}
use Rattle.drm_index_array.proofs.Orders.{in_order_filter}
use Rattle.drm_index_array.proofs.Rising.{in_order_kept}

abbrev pub edited : {X : Type 0} → (X → Bool) → (X → X) → List X → List X → List X
edited stays change new xs = map change (filter stays xs) ++ new

-- none or one
abbrev pub listed : {X : Type 0} → Option X → List X
listed None = []
listed (Some x) = x ∷ []

-- What is true of both values is true of the one that a test selects.
pub either : {X : Type 0} (P : X → Type 0) (b : Bool) (x y : X) → P x → P y → P (if b then x else y)
either P true x y h k = h
either P false x y h k = k

module _ {X : Type 0} where
  -- An option, as a list, has at most one element.
  pub length-listed : (o : Option X) → length (listed o) ≤ 1
  length-listed None = omega arith
  length-listed (Some x) = omega arith

  -- What is true of the value of an option is true of all elements of its list.
  pub all_listed : (P : X → Type 0) (o : Option X) → IfSome o P → AllByRecursion P (listed o)
  all_listed P None h = tt
  all_listed P (Some x) h = (h, tt)

  in_order_listed : (R : X → X → Type 0) (o : Option X) → InOrder R (listed o)
  in_order_listed R None = tt
  in_order_listed R (Some x) = (tt, tt)

  -- ---- lists that are left alone, or changed in one way

  same : (xs : List X) → xs ≡ map (λ x. x) xs
  same [] = refl
  same (x ∷ xs) = ap (λ l. x ∷ l) (same xs)

  each : (change : X → X) (xs : List X) → map change xs ≡ map change (filter (λ x. true) xs)
  each change [] = refl
  each change (x ∷ xs) = ap (λ l. change x ∷ l) (each change xs)

  -- A filtered list with new elements at its end is an edited list.
  pub replaced : (stays : X → Bool) (xs new : List X) → filter stays xs ++ new ≡ edited stays (λ x. x) new xs
  replaced stays xs new = ap (λ l. l ++ new) (same (filter stays xs))

  -- A filtered list is an edited list.
  pub left : (stays : X → Bool) (xs : List X) → filter stays xs ≡ edited stays (λ x. x) [] xs
  left stays xs = sym (append-nil (filter stays xs)) ∙ replaced stays xs []

  -- A list with new elements at its end is an edited list.
  pub added : (xs new : List X) → xs ++ new ≡ edited (λ x. true) (λ x. x) new xs
  added xs new = ap (λ l. l ++ new) (same xs ∙ each (λ x. x) xs)

  -- An unchanged list is an edited list.
  pub alone : (xs : List X) → xs ≡ edited (λ x. true) (λ x. x) [] xs
  alone xs = sym (append-nil xs) ∙ added xs []

  -- A mapped list is an edited list.
  pub mapped : (change : X → X) (xs : List X) → map change xs ≡ edited (λ x. true) change [] xs
  mapped change xs = sym (append-nil (map change xs)) ∙ ap (λ l. l ++ []) (each change xs)

  -- ---- what is so of an edited list

  module _ (stays : X → Bool) (change : X → X) (new xs : List X) where
    -- All elements of an edited list satisfy R if all new ones do, and each kept one does after its change.
    pub all_edited : (Q R : X → Type 0) → ((x : X) → Q x → stays x ≡ true → R (change x)) → AllByRecursion R new
        → AllByRecursion Q xs → AllByRecursion R (edited stays change new xs)
    all_edited Q R still fresh h =
        all_append R (map change (filter stays xs)) new
        (all_mapped R change (filter stays xs) (all_both Q (λ x. stays x ≡ true) (λ x. R (change x)) still (filter stays xs) (all_filter Q stays xs h) (filter_true stays xs)))
        fresh

    -- If every passing element is kept and still passes, an edited list has one that passes if the list had one.
    pub any_edited : (p : X → Bool) → ((x : X) → p x ≡ true → (stays x ≡ true) × (p (change x) ≡ true))
        → list_any p xs ≡ true → list_any p (edited stays change new xs) ≡ true
    any_edited p still h =
        let whatever = λ (x : X). Unit {0} in
        list_any_left p (map change (filter stays xs)) new
        (any_mapped whatever p p change (λ x _ e. (still x e).1) (filter stays xs) (all_each whatever (λ x. tt) (filter stays xs))
        (any_filter whatever p stays (λ x _ e. (still x e).0) xs (all_each whatever (λ x. tt) xs) h))

    -- If no change makes an element pass and no new element passes, none of the edited list passes if none did before.
    pub none_edited : (p : X → Bool) → ((x : X) → p x ≡ false → p (change x) ≡ false) → list_any p new ≡ false
        → list_any p xs ≡ false → list_any p (edited stays change new xs) ≡ false
    none_edited p still fresh h =
        none_added p (map change (filter stays xs)) new
        (none_changed p change still (filter stays xs) (none_filtered p stays xs h)) fresh

    -- An edited list is at most as long as the list and the new elements together.
    pub length-edited : length (edited stays change new xs) ≤ length xs + length new
    length-edited =
        let all = length-append (map change (filter stays xs)) new in
        let changed = length-map (filter stays xs) change in
        let fewer = filter-shorter stays xs in
        omega (arith, all, changed, fewer)

  -- An edited list is in order if the changes keep the order and the kept elements are before the new one.
  pub in_order_edited : (stays : X → Bool) (change : X → X) (o : Option X) (xs : List X) (R : X → X → Type 0)
      → ((x y : X) → R x y → R (change x) (change y)) →
      AllByRecursion (λ x. stays x ≡ true → IfSome o (R (change x))) xs → InOrder R xs → InOrder R
      (edited stays change (listed o) xs)
  in_order_edited stays change o xs R still before h =
      joined (map change (filter stays xs))
      (in_order_kept R change still (filter stays xs) (in_order_filter R stays xs h))
      (all_mapped (λ x. IfSome o (R x)) change (filter stays xs)
      (all_both (λ x. stays x ≡ true → IfSome o (R (change x))) (λ x. stays x ≡ true) (λ x. IfSome o (R (change x))) (λ x f e. f e) (filter stays xs)
      (all_filter (λ x. stays x ≡ true → IfSome o (R (change x))) stays xs before) (filter_true stays xs)))
    where
      joined : (ys : List X) → InOrder R ys → AllByRecursion (λ y. IfSome o (R y)) ys → InOrder R (ys ++ listed o)
      joined [] k b = in_order_listed R o
      joined (y ∷ ys) k b = (all_append (R y) ys (listed o) k.0 (all_listed (R y) o b.0), joined ys k.1 b.1)

-- How the export orders stay in order.
use Rattle.std.proofs.Common.{◌≡◌, ℕ, zero, suc, List, [], ◌∷◌, set, slice_get, eq-eqb, ◌≤◌, ◌<◌, ◌+◌, ◌*◌, ◌==◌, Bool, true, false, cond, if◌then◌else◌, eqb, nat_lt, Option, Some, None, is_some, option_map, option_and_then, refl, sym, ap, subst, ◌∙◌, arith, nat_cmp}
use Rattle.std.specs.FinMap as fin
use Rattle.std.specs.Option.{option_map_or}
use Rattle.std.proofs.lemmas.Bool.{false≢true, eqb-true}
use Rattle.std.proofs.lemmas.Bool.Decides.{nat_tests}
use Rattle.std.proofs.lemmas.Option.{same_Some, none-some}
use Rattle.drm_index_array.proofs.MarkedLemmas.{get-insert, get-remove}
use Rattle.drm_files.specs.declared.files.Held.{Held}
use Rattle.drm_files.specs.declared.orders.ExportOrders.{ExportOrders}
use Rattle.drm_files.specs.declared.orders.Neighbours.{Neighbours}
use Rattle.drm_files.specs.declared.primes.Prime.{Prime}
use Rattle.drm_files.specs.Primes.{prime_of, prime_at, is_before}
use Rattle.drm_files.specs.ExportOrders.{Primes, is_after, IsNext, AreInOrder, previous_of, choose, with_handle}
use Rattle.drm_files.proofs.Chains.{IsOrder, by_bool, both}

-- the two orders of primes

-- "Before" is an order of primes.
pub first_order : IsOrder is_before
first_order = record {
  irreflexive = λ x. grind (arith, nat_tests);
  transitive = λ x y z a b. grind (arith, nat_tests);
  total = λ x y a b. grind (arith, nat_tests);
}

-- "After" is an order of primes.
pub last_order : IsOrder is_after
last_order = record {
  irreflexive = λ x. grind (arith, nat_tests);
  transitive = λ x y z a b. grind (arith, nat_tests);
  total = λ x y a b. grind (arith, nat_tests);
}

-- the primes of a table

-- The prime at a handle has this handle.
pub named : (slots : fin.FinMap nat_cmp Held) (object h : ℕ) (y : Prime) → prime_at slots object h ≡ Some y
    → y.handle ≡ h
named slots object h y there = of_slot (fin.get slots h) there
  where
    of_order : (t : Bool) (p : Option ℕ)
        → (if t then option_map (λ export_order. record { export_order = export_order; handle = h }) p else None) ≡ Some y
        → y.handle ≡ h
    of_order true None e = absurd (none-some y e)
    of_order true (Some export_order) e = sym (ap (λ (z : Prime). z.handle) (same_Some _ y e))
    of_order false p e = absurd (none-some y e)

    of_slot : (o : Option Held) → option_and_then (λ held. prime_of object (h, held)) o ≡ Some y → y.handle ≡ h
    of_slot None e = absurd (none-some y e)
    of_slot (Some held) e = of_order (held.object == object) held.export_order e

-- The handle of a prime is in the table and names the object.
pub for_object : (slots : fin.FinMap nat_cmp Held) (object h : ℕ) (y : Prime) → prime_at slots object h ≡ Some y
    → (x : Held) × (fin.get slots h ≡ Some x) × (x.object ≡ object)
for_object slots object h y there = of_slot (fin.get slots h) there
  where
    of_test : (t : Bool) (p : Option ℕ)
        → (if t then option_map (λ export_order. record { export_order = export_order; handle = h }) p else None) ≡ Some y
        → t ≡ true
    of_test true p e = refl
    of_test false p e = absurd (none-some y e)

    of_slot : (o : Option Held) → option_and_then (λ held. prime_of object (h, held)) o ≡ Some y
        → (x : Held) × (o ≡ Some x) × (x.object ≡ object)
    of_slot None e = absurd (none-some y e)
    of_slot (Some held) e =
        (held, refl, eqb-true held.object object (of_test (held.object == object) held.export_order e))

-- A handle without an export order is no prime.
pub unplaced_is : (object h : ℕ) (x : Held) → x.export_order ≡ None → prime_of object (h, x) ≡ None
unplaced_is object h x none = either (x.object == object) x.export_order none
  where
    either : (t : Bool) (p : Option ℕ) → p ≡ None
        → (if t then option_map {U = Prime} (λ export_order. record { export_order = export_order; handle = h }) p else None) ≡ None
    either true None e = refl
    either true (Some k) e = absurd (none-some k (sym e))
    either false p e = refl

module _ (slots : fin.FinMap nat_cmp Held) (object h : ℕ) where
  -- A new handle without an export order changes no prime.
  pub primes_kept : ((d : ℕ) → prime_at slots d h ≡ None) → (d k : ℕ)
      → prime_at (with_handle slots object h None) d k ≡ prime_at slots d k
  primes_kept none d k =
      ap (option_and_then (λ held. prime_of d (k, held)))
      (get-insert slots h (record { object = object; export_order = None }) k)
      ∙ by_bool (eqb k h)
      (λ same. ap (λ b. option_and_then (λ held. prime_of d (k, held)) (cond b (Some (record { object = object; export_order = None })) (fin.get slots k))) same
      ∙ unplaced_is d k (record { object = object; export_order = None }) refl
      ∙ sym (ap (prime_at slots d) (eqb-true k h same) ∙ none d))
      (λ apart. ap (λ b. option_and_then (λ held. prime_of d (k, held)) (cond b (Some (record { object = object; export_order = None })) (fin.get slots k))) apart)

  -- A handle with an export order is one more prime of its object.
  pub primes_more : (export_order k : ℕ)
      → prime_at (with_handle slots object h (Some export_order)) object k ≡ cond (eqb k h) (Some (record { export_order = export_order; handle = h })) (prime_at slots object k)
  primes_more export_order k =
      ap (option_and_then (λ held. prime_of object (k, held)))
      (get-insert slots h (record { object = object; export_order = Some export_order }) k)
      ∙ by_bool (eqb k h)
      (λ same. ap (λ b. option_and_then (λ held. prime_of object (k, held)) (cond b (Some (record { object = object; export_order = Some export_order })) (fin.get slots k))) same
      ∙ ap (λ t. if t then Some (record { export_order = export_order; handle = k }) else None) (self_test object)
      ∙ ap (λ j. Some (record { export_order = export_order; handle = j })) (eqb-true k h same)
      ∙ sym (ap (λ b. cond b (Some (record { export_order = export_order; handle = h })) (prime_at slots object k)) same))
      (λ apart. ap (λ b. option_and_then (λ held. prime_of object (k, held)) (cond b (Some (record { object = object; export_order = Some export_order })) (fin.get slots k))) apart
      ∙ sym (ap (λ b. cond b (Some (record { export_order = export_order; handle = h })) (prime_at slots object k)) apart))
    where
      self_test : (n : ℕ) → (n == n) ≡ true
      self_test n = grind (arith, nat_tests)

  -- A handle with an export order changes no prime of another object.
  pub primes_of_others : (export_order d k : ℕ) → (d ≡ object → ⊥) → prime_at slots d h ≡ None
      → prime_at (with_handle slots object h (Some export_order)) d k ≡ prime_at slots d k
  primes_of_others export_order d k apart none =
      ap (option_and_then (λ held. prime_of d (k, held)))
      (get-insert slots h (record { object = object; export_order = Some export_order }) k)
      ∙ by_bool (eqb k h)
      (λ same. ap (λ b. option_and_then (λ held. prime_of d (k, held)) (cond b (Some (record { object = object; export_order = Some export_order })) (fin.get slots k))) same
      ∙ ap (λ t. if t then Some (record { export_order = export_order; handle = k }) else None)
      (other_test object d apart)
      ∙ sym (ap (prime_at slots d) (eqb-true k h same) ∙ none))
      (λ isnt. ap (λ b. option_and_then (λ held. prime_of d (k, held)) (cond b (Some (record { object = object; export_order = Some export_order })) (fin.get slots k))) isnt)
    where
      other_test : (n m : ℕ) → (m ≡ n → ⊥) → (n == m) ≡ false
      other_test n m apart = grind (arith, nat_tests)

  -- A removed handle is no prime, and all other primes are unchanged.
  pub primes_fewer : (d k : ℕ) → prime_at (fin.remove slots h) d k ≡ cond (eqb k h) None (prime_at slots d k)
  primes_fewer d k =
      ap (option_and_then (λ held. prime_of d (k, held))) (get-remove slots h k)
      ∙ by_bool (eqb k h)
      (λ same. ap (λ b. option_and_then (λ held. prime_of d (k, held)) (cond b None (fin.get slots k))) same ∙ sym (ap (λ b. cond b None (prime_at slots d k)) same))
      (λ apart. ap (λ b. option_and_then (λ held. prime_of d (k, held)) (cond b None (fin.get slots k))) apart ∙ sym (ap (λ b. cond b None (prime_at slots d k)) apart))

-- Changing one place of an array changes no other.
pub written : (m : fin.FinMap nat_cmp Neighbours) (index : ℕ) (x : Neighbours) (change : Neighbours → Neighbours)
    → Some x ≡ fin.get m index → (k : ℕ)
    → fin.get (fin.insert m index (change x)) k ≡ choose (k == index) (option_map change (fin.get m k)) (fin.get m k)
written m index x change there k =
    get-insert m index (change x) k
    ∙ by_bool (eqb k index)
    (λ same. ap (λ b. cond b (Some (change x)) (fin.get m k)) same ∙ ap (option_map change) (there ∙ ap (fin.get m) (sym (eqb-true k index same))) ∙ sym (ap (λ b. choose b (option_map change (fin.get m k)) (fin.get m k)) same))
    (λ apart. ap (λ b. cond b (Some (change x)) (fin.get m k)) apart ∙ sym (ap (λ b. choose b (option_map change (fin.get m k)) (fin.get m k)) apart))

-- a place of a list that is written, and the others
set_same : (xs : List Neighbours) (i : ℕ) (y x : Neighbours) → slice_get xs i ≡ Some x → slice_get (set xs i y) i ≡ Some y
set_same [] i y x there = absurd (none-some x there)
set_same (z ∷ xs) zero y x there = refl
set_same (z ∷ xs) (suc i) y x there = set_same xs i y x there

set_other : (xs : List Neighbours) (i k : ℕ) (y : Neighbours) → (k ≡ i → ⊥) → slice_get (set xs i y) k ≡ slice_get xs k
set_other [] i k y apart = refl
set_other (z ∷ xs) zero zero y apart = absurd (apart refl)
set_other (z ∷ xs) zero (suc k) y apart = refl
set_other (z ∷ xs) (suc i) zero y apart = refl
set_other (z ∷ xs) (suc i) (suc k) y apart = set_other xs i k y (λ same. apart (ap suc same))

-- Changing one place of a list changes no other.
pub written_in : (xs : List Neighbours) (index : ℕ) (x : Neighbours) (change : Neighbours → Neighbours)
    → slice_get xs index ≡ Some x → (k : ℕ)
    → slice_get (set xs index (change x)) k ≡ choose (k == index) (option_map change (slice_get xs k)) (slice_get xs k)
written_in xs index x change there k =
    by_bool (eqb k index)
    (λ same.
    let here : k ≡ index = eqb-true k index same in
    ap (slice_get (set xs index (change x))) here ∙ set_same xs index (change x) x there
    ∙ sym (ap (λ b. choose b (option_map change (slice_get xs k)) (slice_get xs k)) same ∙ ap (option_map change) (ap (slice_get xs) here ∙ there)))
    (λ isnt.
    set_other xs index k (change x) (λ same. both (eqb k index) (eq-eqb k index same) isnt)
    ∙ sym (ap (λ b. choose b (option_map change (slice_get xs k)) (slice_get xs k)) isnt))

-- the walk from the last back to the one before a new prime

abbrev pub IsReached : Primes → Option ℕ → Prime → Type 0
IsReached primes None x = (k : ℕ) (y : Prime) → primes k ≡ Some y → is_before y x ≡ false
IsReached primes (Some h) x =
    (v : Prime) × (primes h ≡ Some v) ×
    ((k : ℕ) (y : Prime) → primes k ≡ Some y → is_before v y ≡ true → is_before y x ≡ false)

module _ (slots : fin.FinMap nat_cmp Held) (object : ℕ) (x : Prime) where
  abbrev primes : Primes
  primes = prime_at slots object

  -- A walk from the last prime on has at first passed no prime before the new one.
  pub walk_begins : (at : Option ℕ) → IsNext is_after primes None at → IsReached primes at x
  walk_begins None last = λ k y there. absurd (false≢true (sym (last k y there)))
  walk_begins (Some h) last =
      (last.prime, last.there, λ k y there further. both (is_before last.prime y) further (last.first k y there refl))

  -- A walk may pass a prime that is not before the new one.
  pub walk_goes_on : (h : ℕ) (v : Prime) → primes h ≡ Some v → is_before v x ≡ false → IsReached primes (Some h) x
      → (at : Option ℕ) → IsNext is_after primes (Some v) at → IsReached primes at x
  walk_goes_on h v there not_before reached at last = on at last
    where
      beyond : (k : ℕ) (y : Prime) → primes k ≡ Some y → is_before y v ≡ false → is_before y x ≡ false
      beyond k y is not_less =
          by_bool (is_before v y)
          (λ further. reached.2 k y is (ap (λ w. is_before w y) (same_Some _ _ (sym reached.1 ∙ there)) ∙ further))
          (λ isnt.
          let same_handle : y.handle ≡ v.handle = first_order.total y v not_less isnt in
          let same_key : k ≡ h = sym (named slots object k y is) ∙ same_handle ∙ named slots object h v there in
          let same : y ≡ v = same_Some _ _ (sym is ∙ ap primes same_key ∙ there) in
          ap (λ w. is_before w x) same ∙ not_before)

      on : (at : Option ℕ) → IsNext is_after primes (Some v) at → IsReached primes at x
      on None last = λ k y is. beyond k y is (last k y is)
      on (Some l) last =
          (last.prime, last.there, λ k y is further. beyond k y is (by_bool (is_before y v) (λ less. both (is_before last.prime y) further (last.first k y is less)) (λ isnt. isnt)))

-- of two primes the first has the lesser export order, or has the same one and the lesser handle
by_order : {C : Type 0} (w v : Prime) → is_before w v ≡ true → (w.export_order + 1 ≤ v.export_order → C)
    → (w.export_order ≡ v.export_order → w.handle + 1 ≤ v.handle → C) → C
by_order w v less lesser tied =
    by_bool (nat_lt w.export_order v.export_order) (λ so. lesser (grind (arith, nat_tests)))
    (λ isnt. tied (grind (arith, nat_tests)) (grind (arith, nat_tests)))

-- how much of the walk is left
abbrev pub walk_left : fin.FinMap nat_cmp Held → ℕ → Option ℕ → ℕ
walk_left slots object at =
    option_map_or
    (λ h. option_map_or (λ (x : Prime). x.export_order * 4294967296 + x.handle + 1) (prime_at slots object h) 0) at 0

module _ (slots : fin.FinMap nat_cmp Held) (orders : ExportOrders) (order : AreInOrder slots orders) (object : ℕ) (x : Prime) where
  -- A walk from the last prime in the links has at first passed no prime before the new one.
  pub walk_first : (d : ℕ) → d ≡ object → (at : Option ℕ) → at ≡ previous_of orders d None
      → IsReached (prime_at slots object) at x
  walk_first d same at is =
      walk_begins slots object x at
      (subst (λ m. IsNext is_after (prime_at slots object) None m) (sym (is ∙ ap (λ o. previous_of orders o None) same)) (order.previous object None None tt))

  module _ (d : ℕ) (same : d ≡ object) (at : Option ℕ) (h : ℕ) (here : at ≡ Some h) (v : Prime) (there : Some v ≡ prime_at slots object h) (further : Option ℕ) (is : further ≡ previous_of orders d (Some h)) where
    next_there : IsNext is_after (prime_at slots object) (Some v) further
    next_there =
        subst (λ m. IsNext is_after (prime_at slots object) (Some v) m)
        (sym (is ∙ ap (λ o. previous_of orders o (Some h)) same)) (order.previous object (Some h) (Some v) (sym there))

    -- If the prime here is not before the new one, the walk may pass it too.
    pub walk_next : is_before v x ≡ false → IsReached (prime_at slots object) at x
        → IsReached (prime_at slots object) further x
    walk_next not_before reached =
        walk_goes_on slots object x h v (sym there) not_before
        (subst (λ m. IsReached (prime_at slots object) m x) here reached) further next_there

    -- Each step to the previous prime leaves less of the walk.
    pub walk_shorter : walk_left slots object further < walk_left slots object at
    walk_shorter =
        let left_at : walk_left slots object at ≡ v.export_order * 4294967296 + v.handle + 1 =
        ap (walk_left slots object) here
        ∙ ap (λ o. option_map_or (λ (y : Prime). y.export_order * 4294967296 + y.handle + 1) o 0) (sym there) in
        less left_at further next_there
      where
        less : walk_left slots object at ≡ v.export_order * 4294967296 + v.handle + 1 → (m : Option ℕ)
            → IsNext is_after (prime_at slots object) (Some v) m → walk_left slots object m < walk_left slots object at
        less left None last = omega (arith, left)
        less left (Some l) last =
            let w = last.prime in
            let left_there : walk_left slots object (Some l) ≡ w.export_order * 4294967296 + w.handle + 1 =
            ap (λ o. option_map_or (λ (y : Prime). y.export_order * 4294967296 + y.handle + 1) o 0) last.there in
            let name : w.handle ≡ l = named slots object l w last.there in
            let bound : l ≤ 4294967295 = order.fit l (ap is_some (for_object slots object l w last.there).1) in
            by_order w v last.past (λ lesser. omega (arith, left, left_there, name, bound, lesser))
            (λ tied lesser. omega (arith, left, left_there, name, tied, lesser))

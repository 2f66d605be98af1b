-- How the export orders of a client's handles stay in order.
use Rattle.std.proofs.Common.{◌≡◌, ℕ, ◌≤◌, ◌==◌, ◌&&◌, Bool, true, false, cond, if◌then◌else◌, eqb, slice_get, Option, Some, None, is_some, option_map, option_and_then, option_copied, Bor, Result, Ok, Err, OnErr, refl, sym, ap, subst, ◌∙◌, arith, nat_cmp, eq-eqb}
use Rattle.std.specs.FinMap as fin
use Rattle.std.proofs.lemmas.Bool.{false≢true, eqb-true, ne_eqb, and_from}
use Rattle.std.proofs.lemmas.Bool.Decides.{nat_tests}
use Rattle.std.proofs.lemmas.Option.{same_Some, none-some}
use Rattle.drm_index_array.proofs.MarkedLemmas.{get-insert, get-remove}
use Rattle.drm_index_array.specs.Indexed.{Indexed, empty_array}
use Rattle.drm_files.specs.declared.files.Held.{Held}
use Rattle.drm_files.specs.declared.orders.ExportOrders.{ExportOrders}
use Rattle.drm_files.specs.declared.orders.Neighbours.{Neighbours}
use Rattle.drm_files.specs.declared.primes.Prime.{Prime}
use Rattle.drm_files.specs.Primes.{prime_of, prime_at, is_before}
use Rattle.drm_files.specs.ExportOrders.{Primes, is_after, IsPlace, IsNext, AreNext, AreInOrder, AreJoined, AreKept, next_of, previous_of, side_of, has_room, is_same_place, choose, with_handle}
use Rattle.drm_files.proofs.Chains.{by_bool, both, next_to, come_between, leave}
use Rattle.drm_files.proofs.OrderFacts.{first_order, last_order, named, for_object, unplaced_is, primes_kept, primes_more, primes_of_others, primes_fewer}

-- the next ones of the same primes
next_same : (before : Prime → Prime → Bool) (old new : Primes) (were are : Option ℕ → Option ℕ)
    → AreNext before old were → ((k : ℕ) → new k ≡ old k)
    → ((r : Option ℕ) (s : Option Prime) → IsPlace old r s → are r ≡ were r) → AreNext before new are
next_same before old new were are next same places =
    subst (λ (primes : Primes). AreNext before primes are) (λ i k. sym (same k) i)
    (λ r s here. subst (λ m. IsNext before old s m) (sym (places r s here)) (next r s here))

module _ (slots : fin.FinMap nat_cmp Held) (orders : ExportOrders) (order : AreInOrder slots orders) (object h : ℕ) where
  -- the places of an object that the handle is for have room
  room_there : (x : Held) → fin.get slots h ≡ Some x → x.object ≡ object → (r : Option ℕ) (s : Option Prime)
      → IsPlace (prime_at slots object) r s → has_room orders object r ≡ true
  room_there x there for None None here = ap (fin.contains_key orders.ends.items) (sym for) ∙ order.ended h x there
  room_there x there for None (Some v) here = absurd here
  room_there x there for (Some k) None here = absurd here
  room_there x there for (Some k) (Some v) here = order.linked k (ap is_some (for_object slots object k v here).1)

  same_test : (n : ℕ) → (n == n) ≡ true
  same_test n = grind (arith, nat_tests)

  -- a place is itself, and no other one of its object
  itself : (r : Option ℕ) → is_same_place object r object r ≡ true
  itself None = same_test object
  itself (Some k) = same_test k

  another : (r q : Option ℕ) → (r ≡ q → ⊥) → is_same_place object q object r ≡ false
  another None None apart = absurd (apart refl)
  another None (Some l) apart = refl
  another (Some k) None apart = refl
  another (Some k) (Some l) apart = ne_eqb k l (λ same. apart (ap Some same))

  -- the places of two objects are apart
  of_another : (q : Option ℕ) (p : Option Prime) → IsPlace (prime_at slots object) q p → (d : ℕ) → (d ≡ object → ⊥)
      → (r : Option ℕ) (s : Option Prime) → IsPlace (prime_at slots d) r s → is_same_place object q d r ≡ false
  of_another None None at d apart None None here = ne_eqb d object apart
  of_another None None at d apart None (Some v) here = absurd here
  of_another None (Some w) at d apart r s here = absurd at
  of_another (Some l) None at d apart r s here = absurd at
  of_another (Some l) (Some w) at d apart None s here = refl
  of_another None None at d apart (Some k) s here = refl
  of_another (Some l) (Some w) at d apart (Some k) None here = absurd here
  of_another (Some l) (Some w) at d apart (Some k) (Some v) here =
      let mine = for_object slots object l w at in
      let its = for_object slots d k v here in
      ne_eqb k l
      (λ same. apart (sym its.2 ∙ ap (λ (x : Held). x.object) (same_Some its.0 mine.0 (sym its.1 ∙ ap (fin.get slots) same ∙ mine.1)) ∙ mine.2))

  choose_true : {X : Type 0} (b : Bool) (x y : X) → b ≡ true → choose b x y ≡ x
  choose_true b x y e = ap (λ t. choose t x y) e

  choose_false : {X : Type 0} (a b : Bool) (x y : X) → b ≡ false → choose (a && b) x y ≡ y
  choose_false true b x y e = ap (λ t. choose t x y) e
  choose_false false b x y e = refl

-- a fact of an object and of all others
by_object : (object d : ℕ) (P : ℕ → Type 0) → P object → ((d ≡ object → ⊥) → P d) → P d
by_object object d P mine others =
    by_bool (eqb d object) (λ same. subst P (sym (eqb-true d object same)) mine)
    (λ isnt. others (λ same. both (eqb d object) (eq-eqb d object same) isnt))

-- the place of a next one
place_of : (before : Prime → Prime → Bool) (primes : Primes) (x : Option Prime) (q : Option ℕ)
    → IsNext before primes x q → (p : Option Prime) × IsPlace primes q p
place_of before primes x None next = (None, tt)
place_of before primes x (Some l) next = (Some next.prime, next.there)

-- places are those of primes
not_absent : (primes : Primes) (h : ℕ) → primes h ≡ None → (r : Option ℕ) (s : Option Prime) → IsPlace primes r s
    → r ≡ Some h → ⊥
not_absent primes h none None s here same = none-some h same
not_absent primes h none (Some k) None here same = elim here [ ]
not_absent primes h none (Some k) (Some v) here same =
    none-some v (sym none ∙ ap primes (sym (same_Some k h same)) ∙ here)

-- a handle that has no export order is at no place
apart_from : (primes : Primes) (h object d : ℕ) → primes h ≡ None → (r : Option ℕ) (s : Option Prime)
    → IsPlace primes r s → is_same_place object (Some h) d r ≡ false
apart_from primes h object d none None s here = refl
apart_from primes h object d none (Some k) None here = elim here [ ]
apart_from primes h object d none (Some k) (Some v) here =
    ne_eqb k h (λ same. none-some v (sym none ∙ ap primes (sym same) ∙ here))

module _ (slots : fin.FinMap nat_cmp Held) (old : ExportOrders) (order : AreInOrder slots old) (object h export_order : ℕ) (unplaced : fin.get slots h ≡ Some (record { object = object; export_order = None })) (q n : Option ℕ) (n_is : n ≡ next_of old object q) (mid new : ExportOrders) (first : AreJoined old object q (Some h) mid) (second : AreJoined mid object (Some h) n new) where
  abbrev x : Prime
  x = record { export_order = export_order; handle = h }

  abbrev primes : Primes
  primes = prime_at slots object

  no_prime : (d : ℕ) → prime_at slots d h ≡ None
  no_prime d =
      ap (option_and_then (λ held. prime_of d (h, held))) unplaced
      ∙ unplaced_is d h (record { object = object; export_order = None }) refl

  abbrev slots_after : fin.FinMap nat_cmp Held
  slots_after = with_handle slots object h (Some export_order)

  get_after : (k : ℕ)
      → fin.get slots_after k ≡ cond (eqb k h) (Some (record { object = object; export_order = Some export_order })) (fin.get slots k)
  get_after k = get-insert slots h (record { object = object; export_order = Some export_order }) k

  there_after : (k : ℕ) → fin.contains_key slots_after k ≡ fin.contains_key slots k
  there_after k =
      ap is_some (get_after k)
      ∙ by_bool (eqb k h)
      (λ same. ap (λ b. is_some (cond b (Some (record { object = object; export_order = Some export_order })) (fin.get slots k))) same ∙ sym (ap is_some (ap (fin.get slots) (eqb-true k h same) ∙ unplaced)))
      (λ isnt. ap (λ b. is_some (cond b (Some (record { object = object; export_order = Some export_order })) (fin.get slots k))) isnt)

  room : (d : ℕ) (at : Option ℕ) → has_room new d at ≡ has_room old d at
  room d at = second.room d at ∙ first.room d at

  has_places : (r : Option ℕ) (s : Option Prime) → IsPlace primes r s → has_room old object r ≡ true
  has_places = room_there slots old order object h (record { object = object; export_order = None }) unplaced refl

  h_has_room : has_room old object (Some h) ≡ true
  h_has_room = order.linked h (ap is_some unplaced)

  module _ (last : IsNext is_after primes (Some x) q) where
    abbrev left : (p : Option Prime) × IsPlace primes q p
    left = place_of is_after primes (Some x) q last

    following : IsNext is_before primes (Some x) n
    following =
        next_to is_before first_order primes (named slots object) x h refl (no_prime object) q left.0 left.1 last n
        (subst (λ m. IsNext is_before primes left.0 m) (sym n_is) (order.next object q left.0 left.1))

    abbrev right : (p : Option Prime) × IsPlace primes n p
    right = place_of is_before primes (Some x) n following

    next_ones : AreNext is_before (prime_at slots_after object) (next_of new object)
    next_ones =
        come_between is_before first_order primes (named slots object) x h refl q left.0 left.1 last n following
        (next_of old object) (next_of new object) (order.next object) (no_prime object) (prime_at slots_after object)
        (primes_more slots object h export_order)
        (second.next_is object q
        ∙ choose_false slots old order object h (has_room mid object q) (is_same_place object (Some h) object q) n
        (next_of mid object q) (apart_from primes h object object (no_prime object) q left.0 left.1)
        ∙ first.next_is object q
        ∙ choose_true slots old order object h (has_room old object q && is_same_place object q object q) (Some h) (next_of old object q) (and_from (has_room old object q) _ (has_places q left.0 left.1) (itself slots old order object h q)))
        (second.next_is object (Some h)
        ∙ choose_true slots old order object h (has_room mid object (Some h) && is_same_place object (Some h) object (Some h)) n (next_of mid object (Some h)) (and_from (has_room mid object (Some h)) _ (first.room object (Some h) ∙ h_has_room) (itself slots old order object h (Some h))))
        (λ r s here apart.
        second.next_is object r
        ∙ choose_false slots old order object h (has_room mid object r) (is_same_place object (Some h) object r) n
        (next_of mid object r) (apart_from primes h object object (no_prime object) r s here)
        ∙ first.next_is object r
        ∙ choose_false slots old order object h (has_room old object r) (is_same_place object q object r) (Some h) (next_of old object r) (another slots old order object h r q apart))

    previous_ones : AreNext is_after (prime_at slots_after object) (previous_of new object)
    previous_ones =
        come_between is_after last_order primes (named slots object) x h refl n right.0 right.1 following q last
        (previous_of old object) (previous_of new object) (order.previous object) (no_prime object)
        (prime_at slots_after object) (primes_more slots object h export_order)
        (second.previous_is object n
        ∙ choose_true slots old order object h (has_room mid object n && is_same_place object n object n) (Some h) (previous_of mid object n) (and_from (has_room mid object n) _ (first.room object n ∙ has_places n right.0 right.1) (itself slots old order object h n)))
        (second.previous_is object (Some h)
        ∙ choose_false slots old order object h (has_room mid object (Some h)) (is_same_place object n object (Some h))
        (Some h) (previous_of mid object (Some h))
        (another slots old order object h (Some h) n (λ same. not_absent primes h (no_prime object) n right.0 right.1 (sym same)))
        ∙ first.previous_is object (Some h)
        ∙ choose_true slots old order object h (has_room old object (Some h) && is_same_place object (Some h) object (Some h)) q (previous_of old object (Some h)) (and_from (has_room old object (Some h)) _ h_has_room (itself slots old order object h (Some h))))
        (λ r s here apart.
        second.previous_is object r
        ∙ choose_false slots old order object h (has_room mid object r) (is_same_place object n object r) (Some h)
        (previous_of mid object r) (another slots old order object h r n apart)
        ∙ first.previous_is object r
        ∙ choose_false slots old order object h (has_room old object r) (is_same_place object (Some h) object r) q (previous_of old object r) (apart_from primes h object object (no_prime object) r s here))

    module _ (d : ℕ) (other : d ≡ object → ⊥) where
      next_others : AreNext is_before (prime_at slots_after d) (next_of new d)
      next_others =
          next_same is_before (prime_at slots d) (prime_at slots_after d) (next_of old d) (next_of new d) (order.next d)
          (λ k. primes_of_others slots object h export_order d k other (no_prime d))
          (λ r s here.
          second.next_is d r
          ∙ choose_false slots old order object h (has_room mid d r) (is_same_place object (Some h) d r) n
          (next_of mid d r) (apart_from (prime_at slots d) h object d (no_prime d) r s here)
          ∙ first.next_is d r
          ∙ choose_false slots old order object h (has_room old d r) (is_same_place object q d r) (Some h) (next_of old d r) (of_another slots old order object h q left.0 left.1 d other r s here))

      previous_others : AreNext is_after (prime_at slots_after d) (previous_of new d)
      previous_others =
          next_same is_after (prime_at slots d) (prime_at slots_after d) (previous_of old d) (previous_of new d)
          (order.previous d) (λ k. primes_of_others slots object h export_order d k other (no_prime d))
          (λ r s here.
          second.previous_is d r
          ∙ choose_false slots old order object h (has_room mid d r) (is_same_place object n d r) (Some h)
          (previous_of mid d r) (of_another slots old order object h n right.0 right.1 d other r s here)
          ∙ first.previous_is d r
          ∙ choose_false slots old order object h (has_room old d r) (is_same_place object (Some h) d r) q (previous_of old d r) (apart_from (prime_at slots d) h object d (no_prime d) r s here))

    -- After a handle gets an export order and is linked at its place, the orders are still in order.
    pub placed_in_order : AreInOrder slots_after new
    placed_in_order = record {
      fit = λ k there. order.fit k (sym (there_after k) ∙ there);
      linked = λ k there. room object (Some k) ∙ order.linked k (sym (there_after k) ∙ there);
      ended = λ k y there. room y.object None ∙ ended k y there;
      next =
          λ d. by_object object d (λ e. AreNext is_before (prime_at slots_after e) (next_of new e)) next_ones
          (next_others d);
      previous =
          λ d. by_object object d (λ e. AreNext is_after (prime_at slots_after e) (previous_of new e)) previous_ones
          (previous_others d);
    }
      where
        ended : (k : ℕ) (y : Held) → fin.get slots_after k ≡ Some y → has_room old y.object None ≡ true
        ended k y there =
            by_bool (eqb k h)
            (λ same. ap (fin.contains_key old.ends.items) (ap (λ (z : Held). z.object) (same_Some y (record { object = object; export_order = Some export_order }) (sym there ∙ get_after k ∙ ap (λ b. cond b (Some (record { object = object; export_order = Some export_order })) (fin.get slots k)) same))) ∙ order.ended h (record { object = object; export_order = None }) unplaced)
            (λ isnt. order.ended k y (sym (ap (λ b. cond b (Some (record { object = object; export_order = Some export_order })) (fin.get slots k)) isnt) ∙ sym (get_after k) ∙ there))

module _ (slots : fin.FinMap nat_cmp Held) (old : ExportOrders) (order : AreInOrder slots old) (object h : ℕ) (held : Held) (there : fin.get slots h ≡ Some held) where
  abbrev fewer : fin.FinMap nat_cmp Held
  fewer = fin.remove slots h

  get_fewer : (k : ℕ) → fin.get fewer k ≡ cond (eqb k h) None (fin.get slots k)
  get_fewer k = get-remove slots h k

  was_there : (k : ℕ) (y : Held) → fin.get fewer k ≡ Some y → fin.get slots k ≡ Some y
  was_there k y left =
      by_bool (eqb k h)
      (λ same. absurd (none-some y (sym (ap (λ b. cond b None (fin.get slots k)) same) ∙ sym (get_fewer k) ∙ left)))
      (λ isnt. sym (ap (λ b. cond b None (fin.get slots k)) isnt) ∙ sym (get_fewer k) ∙ left)

  was_held : (k : ℕ) → fin.contains_key fewer k ≡ true → fin.contains_key slots k ≡ true
  was_held k left = by (fin.get fewer k) refl left
    where
      by : (y : Option Held) → fin.get fewer k ≡ y → is_some y ≡ true → fin.contains_key slots k ≡ true
      by None is some = absurd (false≢true some)
      by (Some y) is some = ap is_some (was_there k y is)

  -- After a handle without an export order is removed, the orders are still in order.
  pub forgotten_unplaced : held.export_order ≡ None → AreInOrder fewer old
  forgotten_unplaced none = record {
    fit = λ k left. order.fit k (was_held k left);
    linked = λ k left. order.linked k (was_held k left);
    ended = λ k y left. order.ended k y (was_there k y left);
    next =
        λ d. next_same is_before (prime_at slots d) (prime_at fewer d) (next_of old d) (next_of old d) (order.next d)
        (kept d) (λ r s here. refl);
    previous =
        λ d. next_same is_after (prime_at slots d) (prime_at fewer d) (previous_of old d) (previous_of old d)
        (order.previous d) (kept d) (λ r s here. refl);
  }
    where
      no_prime_here : (d : ℕ) → prime_at slots d h ≡ None
      no_prime_here d = ap (option_and_then (λ x. prime_of d (h, x))) there ∙ unplaced_is d h held none

      kept : (d k : ℕ) → prime_at fewer d k ≡ prime_at slots d k
      kept d k =
          primes_fewer slots object h d k
          ∙ by_bool (eqb k h)
          (λ same. ap (λ b. cond b None (prime_at slots d k)) same ∙ sym (ap (prime_at slots d) (eqb-true k h same) ∙ no_prime_here d))
          (λ isnt. ap (λ b. cond b None (prime_at slots d k)) isnt)

  -- one that has leaves its place
  module _ (for : held.object ≡ object) (export_order : ℕ) (placed : held.export_order ≡ Some export_order) (q n : Option ℕ) (q_is : q ≡ previous_of old object (Some h)) (n_is : n ≡ next_of old object (Some h)) (new : ExportOrders) (joined : AreJoined old object q n new) where
    abbrev it : Prime
    it = record { export_order = export_order; handle = h }

    it_is_there : prime_at slots object h ≡ Some it
    it_is_there =
        ap (option_and_then (λ x. prime_of object (h, x))) there
        ∙ ap
        (λ t. if t then option_map {U = Prime} (λ p. record { export_order = p; handle = h }) held.export_order else None)
        (ap (λ o. o == object) for ∙ same_test slots old order object h object)
        ∙ ap (option_map {U = Prime} (λ p. record { export_order = p; handle = h })) placed

    last_before : IsNext is_after (prime_at slots object) (Some it) q
    last_before =
        subst (λ m. IsNext is_after (prime_at slots object) (Some it) m) (sym q_is)
        (order.previous object (Some h) (Some it) it_is_there)

    next_after : IsNext is_before (prime_at slots object) (Some it) n
    next_after =
        subst (λ m. IsNext is_before (prime_at slots object) (Some it) m) (sym n_is)
        (order.next object (Some h) (Some it) it_is_there)

    abbrev before_it : (p : Option Prime) × IsPlace (prime_at slots object) q p
    before_it = place_of is_after (prime_at slots object) (Some it) q last_before

    abbrev after_it : (p : Option Prime) × IsPlace (prime_at slots object) n p
    after_it = place_of is_before (prime_at slots object) (Some it) n next_after

    has_place : (r : Option ℕ) (s : Option Prime) → IsPlace (prime_at slots object) r s → has_room old object r ≡ true
    has_place = room_there slots old order object h held there for

    next_ones_left : AreNext is_before (prime_at fewer object) (next_of new object)
    next_ones_left =
        leave is_before first_order (prime_at slots object) (named slots object) it h refl q before_it.0 before_it.1
        last_before n next_after (next_of old object) (next_of new object) (order.next object) it_is_there
        (prime_at fewer object) (primes_fewer slots object h object)
        (joined.next_is object q
        ∙ choose_true slots old order object h (has_room old object q && is_same_place object q object q) n (next_of old object q) (and_from (has_room old object q) _ (has_place q before_it.0 before_it.1) (itself slots old order object h q)))
        (λ r s here apart not_h. joined.next_is object r ∙ choose_false slots old order object h (has_room old object r) (is_same_place object q object r) n (next_of old object r) (another slots old order object h r q apart))

    previous_ones_left : AreNext is_after (prime_at fewer object) (previous_of new object)
    previous_ones_left =
        leave is_after last_order (prime_at slots object) (named slots object) it h refl n after_it.0 after_it.1
        next_after q last_before (previous_of old object) (previous_of new object) (order.previous object) it_is_there
        (prime_at fewer object) (primes_fewer slots object h object)
        (joined.previous_is object n
        ∙ choose_true slots old order object h (has_room old object n && is_same_place object n object n) q (previous_of old object n) (and_from (has_room old object n) _ (has_place n after_it.0 after_it.1) (itself slots old order object h n)))
        (λ r s here apart not_h. joined.previous_is object r ∙ choose_false slots old order object h (has_room old object r) (is_same_place object n object r) q (previous_of old object r) (another slots old order object h r n apart))

    module _ (d : ℕ) (other : d ≡ object → ⊥) where
      not_for : (k : ℕ) (v : Prime) → prime_at slots d k ≡ Some v → k ≡ h → ⊥
      not_for k v here same =
          let its = for_object slots d k v here in
          other
          (sym its.2 ∙ ap (λ (x : Held). x.object) (same_Some its.0 held (sym its.1 ∙ ap (fin.get slots) same ∙ there)) ∙ for)

      kept_others : (k : ℕ) → prime_at fewer d k ≡ prime_at slots d k
      kept_others k =
          primes_fewer slots object h d k
          ∙ by_bool (eqb k h)
          (λ same. ap (λ b. cond b None (prime_at slots d k)) same ∙ none_at k (eqb-true k h same) (prime_at slots d k) refl)
          (λ isnt. ap (λ b. cond b None (prime_at slots d k)) isnt)
        where
          none_at : (k : ℕ) → k ≡ h → (o : Option Prime) → prime_at slots d k ≡ o → None ≡ o
          none_at k same None is = refl
          none_at k same (Some v) is = absurd (not_for k v is same)

      next_others_left : AreNext is_before (prime_at fewer d) (next_of new d)
      next_others_left =
          next_same is_before (prime_at slots d) (prime_at fewer d) (next_of old d) (next_of new d) (order.next d)
          kept_others
          (λ r s here. joined.next_is d r ∙ choose_false slots old order object h (has_room old d r) (is_same_place object q d r) n (next_of old d r) (of_another slots old order object h q before_it.0 before_it.1 d other r s here))

      previous_others_left : AreNext is_after (prime_at fewer d) (previous_of new d)
      previous_others_left =
          next_same is_after (prime_at slots d) (prime_at fewer d) (previous_of old d) (previous_of new d)
          (order.previous d) kept_others
          (λ r s here. joined.previous_is d r ∙ choose_false slots old order object h (has_room old d r) (is_same_place object n d r) q (previous_of old d r) (of_another slots old order object h n after_it.0 after_it.1 d other r s here))

    -- After a handle with an export order is removed and its neighbours are joined, the orders are still in order.
    pub forgotten_placed : AreInOrder fewer new
    forgotten_placed = record {
      fit = λ k left. order.fit k (was_held k left);
      linked = λ k left. joined.room object (Some k) ∙ order.linked k (was_held k left);
      ended = λ k y left. joined.room y.object None ∙ order.ended k y (was_there k y left);
      next =
          λ d. by_object object d (λ e. AreNext is_before (prime_at fewer e) (next_of new e)) next_ones_left
          (next_others_left d);
      previous =
          λ d. by_object object d (λ e. AreNext is_after (prime_at fewer e) (previous_of new e)) previous_ones_left
          (previous_others_left d);
    }

-- An option with a value is `Some` of a value.
pub some_of : (o : Option ℕ) → is_some o ≡ true → (n : ℕ) × (o ≡ Some n)
some_of None there = absurd (false≢true there)
some_of (Some n) there = (n, refl)

-- rooms that are made

abbrev pub alone : Neighbours
alone = record { next = None; previous = None }

-- an object that has no room may be assigned it, and those that have it keep it
abbrev pub IsRoomier : fin.FinMap nat_cmp Neighbours → fin.FinMap nat_cmp Neighbours → Type 0
IsRoomier old new =
    (d : ℕ) → (fin.get old d ≡ None → (fin.get new d ≡ None → ⊥) → fin.get new d ≡ Some alone) ×
    ((x : Neighbours) → fin.get old d ≡ Some x → fin.get new d ≡ Some x)

-- A map is as roomy as itself.
pub as_roomy : (m : fin.FinMap nat_cmp Neighbours) → IsRoomier m m
as_roomy m d = (λ none there. absurd (there none), λ x is. is)

-- An entry without neighbours for a new object makes a map roomier.
pub with_room : (m : fin.FinMap nat_cmp Neighbours) (object : ℕ) → fin.get m object ≡ None
    → IsRoomier m (fin.insert m object alone)
with_room m object absent d = (
  λ none there. get-insert m object alone d
      ∙ by_bool (eqb d object) (λ same. ap (λ b. cond b (Some alone) (fin.get m d)) same)
      (λ isnt. absurd (there (get-insert m object alone d ∙ ap (λ b. cond b (Some alone) (fin.get m d)) isnt ∙ none))),
  λ x is. get-insert m object alone d
      ∙ by_bool (eqb d object)
      (λ same. absurd (none-some x (sym absent ∙ ap (fin.get m) (sym (eqb-true d object same)) ∙ is)))
      (λ isnt. ap (λ b. cond b (Some alone) (fin.get m d)) isnt ∙ is),
)

-- A copied option has a value if and only if the option has one.
pub copied_there : {X : Type 0} → (o : Option (Bor X)) → is_some (option_copied o) ≡ is_some o
copied_there None = refl
copied_there (Some x) = refl

-- What holds at all holds of an error.
pub on_err : {X E P : Type 0} (r : Result X E) → P → OnErr r P
on_err (Ok x) p = tt
on_err (Err e) p = p

-- the object has room now, and all else is kept
pub record HasRoomNow (old new : ExportOrders) (object : ℕ) : Type 0 where
  pub links : new.links ≡ old.links
  pub ends : IsRoomier old.ends.items new.ends.items
  pub mine : fin.contains_key new.ends.items object ≡ true

-- An object that had no ends has room after they are inserted.
pub first_room : (old new : ExportOrders) (object : ℕ) (ends : Indexed Neighbours)
    → new ≡ record { links = old.links; ends = ends } → ends.items ≡ fin.insert old.ends.items object alone
    → fin.get old.ends.items object ≡ None → HasRoomNow old new object
first_room old new object ends is inserted absent = record {
  links = ap (λ (o : ExportOrders). o.links) is;
  ends = subst (λ m. IsRoomier old.ends.items m) (sym items) (with_room old.ends.items object absent);
  mine =
      ap is_some
      (ap (λ m. fin.get m object) items ∙ get-insert old.ends.items object alone object ∙ ap (λ b. cond b (Some alone) (fin.get old.ends.items object)) (same_number object));
}
  where
    items : new.ends.items ≡ fin.insert old.ends.items object alone
    items = ap (λ (o : ExportOrders). o.ends.items) is ∙ inserted

    same_number : (k : ℕ) → eqb k k ≡ true
    same_number k = grind (arith, nat_tests)

-- An object that had ends already has room.
pub own_room : (old new : ExportOrders) (object : ℕ) → new ≡ old → fin.contains_key old.ends.items object ≡ true
    → HasRoomNow old new object
own_room old new object is there = record {
  links = ap (λ (o : ExportOrders). o.links) is;
  ends = subst (λ (o : ExportOrders). IsRoomier old.ends.items o.ends.items) (sym is) (as_roomy old.ends.items);
  mine = ap (λ (o : ExportOrders). fin.contains_key o.ends.items object) is ∙ there;
}

module _ (slots : fin.FinMap nat_cmp Held) (old new : ExportOrders) (order : AreInOrder slots old) (ends : IsRoomier old.ends.items new.ends.items) where
  side_end : (side : Neighbours → Option ℕ) → side alone ≡ None → (d : ℕ)
      → side_of side new d None ≡ side_of side old d None
  side_end side empty d = by (fin.get old.ends.items d) (fin.get new.ends.items d) refl refl
    where
      by : (a b : Option Neighbours) → fin.get old.ends.items d ≡ a → fin.get new.ends.items d ≡ b
          → side_of side new d None ≡ side_of side old d None
      by (Some x) b was is = ap (option_and_then side) ((ends d).1 x was ∙ sym was)
      by None None was is = ap (option_and_then side) (is ∙ sym was)
      by None (Some y) was is =
          ap (option_and_then side) ((ends d).0 was (λ none. none-some y (sym none ∙ is))) ∙ empty
          ∙ sym (ap (option_and_then side) was)

  still_ended : (d : ℕ) → fin.contains_key old.ends.items d ≡ true → fin.contains_key new.ends.items d ≡ true
  still_ended d there = by (fin.get old.ends.items d) refl there
    where
      by : (a : Option Neighbours) → fin.get old.ends.items d ≡ a → is_some a ≡ true
          → fin.contains_key new.ends.items d ≡ true
      by None was there = absurd (false≢true there)
      by (Some x) was there = ap is_some ((ends d).1 x was)

  module _ (links : AreKept old.links.items new.links.items) where
    link_kept : (k : ℕ) → fin.contains_key slots k ≡ true
        → (x : Neighbours) × (slice_get old.links.items k ≡ Some x) × (slice_get new.links.items k ≡ Some x)
    link_kept k there = by (slice_get old.links.items k) refl (order.linked k there)
      where
        by : (o : Option Neighbours) → slice_get old.links.items k ≡ o → is_some o ≡ true
            → (x : Neighbours) × (slice_get old.links.items k ≡ Some x) × (slice_get new.links.items k ≡ Some x)
        by None is some = absurd (false≢true some)
        by (Some x) is some = (x, is, links k x is)

    still_linked : (k : ℕ) → fin.contains_key slots k ≡ true → is_some (slice_get new.links.items k) ≡ true
    still_linked k there = ap is_some (link_kept k there).2

    side_kept : (side : Neighbours → Option ℕ) → side alone ≡ None → (d : ℕ) (r : Option ℕ) (s : Option Prime)
        → IsPlace (prime_at slots d) r s → side_of side new d r ≡ side_of side old d r
    side_kept side empty d None s here = side_end side empty d
    side_kept side empty d (Some k) None here = absurd here
    side_kept side empty d (Some k) (Some v) here =
        let its = link_kept k (ap is_some (for_object slots d k v here).1) in
        ap (option_and_then side) (its.2 ∙ sym its.1)

    -- With more room and the old links kept, the orders are still in order.
    pub roomier : AreInOrder slots new
    roomier = record {
      fit = order.fit;
      linked = still_linked;
      ended = λ k y there. still_ended y.object (order.ended k y there);
      next =
          λ d. next_same is_before (prime_at slots d) (prime_at slots d) (next_of old d) (next_of new d) (order.next d)
          (λ k. refl) (side_kept (λ (x : Neighbours). x.next) refl d);
      previous =
          λ d. next_same is_after (prime_at slots d) (prime_at slots d) (previous_of old d) (previous_of new d)
          (order.previous d) (λ k. refl) (side_kept (λ (x : Neighbours). x.previous) refl d);
    }

    -- a new handle of the object has room, too
    module _ (object h : ℕ) (absent : fin.get slots h ≡ None) (few : h ≤ 4294967295) (mine_linked : is_some (slice_get new.links.items h) ≡ true) (mine : fin.contains_key new.ends.items object ≡ true) where
      abbrev more_slots : fin.FinMap nat_cmp Held
      more_slots = with_handle slots object h None

      get_more : (k : ℕ)
          → fin.get more_slots k ≡ cond (eqb k h) (Some (record { object = object; export_order = None })) (fin.get slots k)
      get_more k = get-insert slots h (record { object = object; export_order = None }) k

      no_prime_yet : (d : ℕ) → prime_at slots d h ≡ None
      no_prime_yet d = ap (option_and_then (λ x. prime_of d (h, x))) absent

      -- a fact of the new handle and of those that were there is one of all
      each_handle : (P : ℕ → Type 0) → P h → ((k : ℕ) → fin.contains_key slots k ≡ true → P k) → (k : ℕ)
          → fin.contains_key more_slots k ≡ true → P k
      each_handle P new_one others k there =
          by_bool (eqb k h) (λ same. subst P (sym (eqb-true k h same)) new_one)
          (λ isnt. others k (sym (ap is_some (get_more k) ∙ ap (λ b. is_some (cond b (Some (record { object = object; export_order = None })) (fin.get slots k))) isnt) ∙ there))

      -- With room for it, a new handle without an export order leaves the orders in order.
      pub room_made : AreInOrder more_slots new
      room_made = record {
        fit = each_handle (λ k. k ≤ 4294967295) few order.fit;
        linked = each_handle (λ k. is_some (slice_get new.links.items k) ≡ true) mine_linked still_linked;
        ended = λ k y there. by_bool (eqb k h)
            (λ same. ap (fin.contains_key new.ends.items) (ap (λ (z : Held). z.object) (same_Some y (record { object = object; export_order = None }) (sym there ∙ get_more k ∙ ap (λ b. cond b (Some (record { object = object; export_order = None })) (fin.get slots k)) same))) ∙ mine)
            (λ isnt. still_ended y.object (order.ended k y (sym (ap (λ b. cond b (Some (record { object = object; export_order = None })) (fin.get slots k)) isnt) ∙ sym (get_more k) ∙ there)));
        next =
            λ d. next_same is_before (prime_at slots d) (prime_at more_slots d) (next_of old d) (next_of new d)
            (order.next d) (primes_kept slots object h no_prime_yet d) (side_kept (λ (x : Neighbours). x.next) refl d);
        previous =
            λ d. next_same is_after (prime_at slots d) (prime_at more_slots d) (previous_of old d) (previous_of new d)
            (order.previous d) (primes_kept slots object h no_prime_yet d)
            (side_kept (λ (x : Neighbours). x.previous) refl d);
      }

-- Without handles the orders are in order.
pub none_in_order : (orders : ExportOrders) → orders.ends ≡ empty_array → (slots : fin.FinMap nat_cmp Held)
    → slots ≡ fin.empty → AreInOrder slots orders
none_in_order orders ends slots none = record {
  fit = λ k there. absurd (false≢true (sym (ap is_some (absent k)) ∙ there));
  linked = λ k there. absurd (false≢true (sym (ap is_some (absent k)) ∙ there));
  ended = λ k y there. absurd (none-some y (sym (absent k) ∙ there));
  next =
      λ d r s here. nowhere is_before d (next_of orders d)
      (ap (option_and_then (λ (x : Neighbours). x.next)) (no_end d)) r s here;
  previous =
      λ d r s here. nowhere is_after d (previous_of orders d)
      (ap (option_and_then (λ (x : Neighbours). x.previous)) (no_end d)) r s here;
}
  where
    absent : (k : ℕ) → fin.get slots k ≡ None
    absent k = ap (λ m. fin.get m k) none ∙ fin.get-empty nat_cmp k

    no_end : (d : ℕ) → fin.get orders.ends.items d ≡ None
    no_end d = ap (λ e. fin.get e.items d) ends ∙ fin.get-empty nat_cmp d

    no_prime : (d k : ℕ) → prime_at slots d k ≡ None
    no_prime d k = ap (option_and_then (λ x. prime_of d (k, x))) (absent k)

    nowhere : (before : Prime → Prime → Bool) (d : ℕ) (next : Option ℕ → Option ℕ) → next None ≡ None
        → AreNext before (prime_at slots d) next
    nowhere before d next start None None here =
        subst (λ m. IsNext before (prime_at slots d) None m) (sym start)
        (λ k y there. absurd (none-some y (sym (no_prime d k) ∙ there)))
    nowhere before d next start None (Some v) here = elim here [ ]
    nowhere before d next start (Some k) None here = elim here [ ]
    nowhere before d next start (Some k) (Some v) here = absurd (none-some v (sym (no_prime d k) ∙ here))

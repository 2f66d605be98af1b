-- How each link still leads to the next prime after a prime is added between two neighbours or removed.
use Rattle.std.proofs.Common.{◌≡◌, ℕ, Bool, true, false, cond, eqb, Option, Some, None, refl, sym, ap, subst, ◌∙◌, arith, eq-eqb}
use Rattle.std.proofs.lemmas.Bool.Decides.{nat_tests}
use Rattle.std.proofs.lemmas.Bool.{false≢true, eqb-true}
use Rattle.std.proofs.lemmas.Option.{same_Some, none-some}
use Rattle.drm_files.specs.declared.primes.Prime.{Prime}
use Rattle.drm_files.specs.ExportOrders.{Primes, IsPlace, is_past, IsNext, AreNext}

-- What follows in both cases of a test holds.
pub by_bool : {C : Type 0} (b : Bool) → (b ≡ true → C) → (b ≡ false → C) → C
by_bool true so isnt = so refl
by_bool false so isnt = isnt refl

-- A test cannot both pass and fail.
pub both : {C : Type 0} (b : Bool) → b ≡ true → b ≡ false → C
both b so isnt = absurd (false≢true (sym isnt ∙ so))

place_eq : {C : Type 0} (r q : Option ℕ) → (r ≡ q → C) → ((r ≡ q → ⊥) → C) → C
place_eq None None so isnt = so refl
place_eq None (Some l) so isnt = isnt (none-some l)
place_eq (Some k) None so isnt = isnt (λ same. none-some k (sym same))
place_eq (Some k) (Some l) so isnt =
    by_bool (eqb k l) (λ same. so (ap Some (eqb-true k l same)))
    (λ apart. isnt (λ same. both (eqb k l) (eq-eqb k l (same_Some k l same)) apart))

-- an order in which of two primes one is before the other, unless they are of one handle
pub record IsOrder (before : Prime → Prime → Bool) : Type 0 where
  pub irreflexive : (x : Prime) → before x x ≡ false
  pub transitive : (x y z : Prime) → before x y ≡ true → before y z ≡ true → before x z ≡ true
  pub total : (x y : Prime) → before x y ≡ false → before y x ≡ false → x.handle ≡ y.handle

module _ (before : Prime → Prime → Bool) (order : IsOrder before) (primes : Primes) (named : (h : ℕ) (y : Prime) → primes h ≡ Some y → y.handle ≡ h) where
  abbrev after : Prime → Prime → Bool
  after y x = before x y

  -- of two primes of different handles
  other : (k h : ℕ) (y x : Prime) → primes k ≡ Some y → x.handle ≡ h → (k ≡ h → ⊥) → before y x ≡ false
      → before x y ≡ true
  other k h y x there name apart not_before =
      by_bool (before x y) (λ so. so)
      (λ isnt. absurd (apart (sym (named k y there) ∙ order.total y x not_before isnt ∙ name)))

  past_both : (place : Option Prime) (x y : Prime) → is_past before place x ≡ true → before x y ≡ true
      → is_past before place y ≡ true
  past_both None x y past further = refl
  past_both (Some w) x y past further = order.transitive w x y past further

  -- a place has one prime
  same_prime : (q : Option ℕ) (p : Option Prime) (r : Option ℕ) (s : Option Prime) → IsPlace primes q p
      → IsPlace primes r s → q ≡ r → p ≡ s
  same_prime None None None None at here same = refl
  same_prime None None None (Some v) at here same = elim here [ ]
  same_prime None None (Some k) s at here same = absurd (none-some k same)
  same_prime None (Some w) r s at here same = absurd at
  same_prime (Some l) None r s at here same = absurd at
  same_prime (Some l) (Some w) None s at here same = absurd (none-some l (sym same))
  same_prime (Some l) (Some w) (Some k) None at here same = absurd here
  same_prime (Some l) (Some w) (Some k) (Some v) at here same = sym at ∙ ap primes (same_Some l k same) ∙ here

  module _ (x : Prime) where
    -- the place that has none between it and x is past x's side
    x_is_past : (q : Option ℕ) (p : Option Prime) → IsPlace primes q p → IsNext after primes (Some x) q
        → is_past before p x ≡ true
    x_is_past None None at last = refl
    x_is_past None (Some w) at last = absurd at
    x_is_past (Some l) None at last = absurd at
    x_is_past (Some l) (Some w) at last = ap (λ y. before y x) (same_Some _ _ (sym at ∙ last.there)) ∙ last.past

    -- nothing is between that place and x
    nothing_between : (q : Option ℕ) (p : Option Prime) → IsPlace primes q p → IsNext after primes (Some x) q
        → (k : ℕ) (y : Prime) → primes k ≡ Some y → is_past before p y ≡ true → before y x ≡ false
    nothing_between None None at last k y there past = last k y there
    nothing_between None (Some w) at last k y there past = absurd at
    nothing_between (Some l) None at last k y there past = absurd at
    nothing_between (Some l) (Some w) at last k y there past =
        by_bool (before y x)
        (λ so. both (before w y) past (ap (λ v. before v y) (same_Some _ _ (sym at ∙ last.there)) ∙ last.first k y there so))
        (λ isnt. isnt)

    -- another place that x is past is before that place, too
    lower : (q : Option ℕ) (p : Option Prime) → IsPlace primes q p → IsNext after primes (Some x) q
        → (r : Option ℕ) (s : Option Prime) → IsPlace primes r s → (r ≡ q → ⊥) → is_past before s x ≡ true →
        (l : ℕ) × (w : Prime) × (primes l ≡ Some w) × (before w x ≡ true) × (is_past before s w ≡ true)
    lower None p at last None None here apart past = absurd (apart refl)
    lower None p at last None (Some v) here apart past = absurd here
    lower None p at last (Some k) None here apart past = absurd here
    lower None p at last (Some k) (Some v) here apart past = both (before v x) past (last k v here)
    lower (Some l) p at last None None here apart past = (l, last.prime, last.there, last.past, refl)
    lower (Some l) p at last None (Some v) here apart past = absurd here
    lower (Some l) p at last (Some k) None here apart past = absurd here
    lower (Some l) p at last (Some k) (Some v) here apart past =
        let w = last.prime in
        (l, w, last.there, last.past, other l k w v last.there (named k v here) (λ same. apart (ap Some (sym same))) (last.first k v here past))

    -- The next one of the last prime before x is the next one of x.
    pub next_to : (h : ℕ) → x.handle ≡ h → primes h ≡ None → (q : Option ℕ) (p : Option Prime) → IsPlace primes q p
        → IsNext after primes (Some x) q → (n : Option ℕ) → IsNext before primes p n → IsNext before primes (Some x) n
    next_to h name absent q p at last None next =
        λ k y there. by_bool (before x y)
        (λ so. both (is_past before p y) (past_both p x y (x_is_past q p at last) so) (next k y there)) (λ isnt. isnt)
    next_to h name absent q p at last (Some m) next =
        let z = next.prime in
        record {
          prime = z;
          there = next.there;
          past =
              other m h z x next.there name (λ same. none-some z (sym absent ∙ ap primes (sym same) ∙ next.there))
              (nothing_between q p at last m z next.there next.past);
          first = λ k y there past. next.first k y there (past_both p x y (x_is_past q p at last) past);
        }

    module _ (h : ℕ) (name : x.handle ≡ h) (q : Option ℕ) (p : Option Prime) (at : IsPlace primes q p) (last : IsNext after primes (Some x) q) (n : Option ℕ) (following : IsNext before primes (Some x) n) (old new : Option ℕ → Option ℕ) (next : AreNext before primes old) where
      -- x is added between the two
      module _ (absent : primes h ≡ None) (more : Primes) (more_is : (k : ℕ) → more k ≡ cond (eqb k h) (Some x) (primes k)) (new_left : new q ≡ Some h) (new_it : new (Some h) ≡ n) (new_other : (r : Option ℕ) (s : Option Prime) → IsPlace primes r s → (r ≡ q → ⊥) → new r ≡ old r) where
        it_is : more h ≡ Some x
        it_is = more_is h ∙ ap (λ b. cond b (Some x) (primes h)) (same_number h)
          where
            same_number : (k : ℕ) → eqb k k ≡ true
            same_number k = grind (arith, nat_tests)

        still : (k : ℕ) (y : Prime) → primes k ≡ Some y → more k ≡ Some y
        still k y there =
            more_is k
            ∙ by_bool (eqb k h)
            (λ same. absurd (none-some y (sym absent ∙ ap primes (sym (eqb-true k h same)) ∙ there)))
            (λ apart. ap (λ b. cond b (Some x) (primes k)) apart ∙ there)

        -- a fact of x and of those that existed is one of all
        each : (P : ℕ → Prime → Type 0) → P h x → ((k : ℕ) (y : Prime) → primes k ≡ Some y → P k y)
            → (k : ℕ) (y : Prime) → more k ≡ Some y → P k y
        each P it others k y there =
            by_bool (eqb k h)
            (λ same. let is_x : x ≡ y = same_Some _ _ (sym (ap (λ b. cond b (Some x) (primes k)) same) ∙ sym (more_is k) ∙ there) in subst (λ z. P k z) is_x (subst (λ j. P j x) (sym (eqb-true k h same)) it))
            (λ apart. others k y (sym (ap (λ b. cond b (Some x) (primes k)) apart) ∙ sym (more_is k) ∙ there))

        to_it : IsNext before more p (Some h)
        to_it = record {
          prime = x;
          there = it_is;
          past = x_is_past q p at last;
          first =
              each (λ k y. is_past before p y ≡ true → before y x ≡ false) (λ _. order.irreflexive x)
              (λ k y there past. nothing_between q p at last k y there past);
        }

        from_it : (m : Option ℕ) → IsNext before primes (Some x) m → IsNext before more (Some x) m
        from_it None is = each (λ k y. before x y ≡ false) (order.irreflexive x) is
        from_it (Some m) is = record {
          prime = is.prime;
          there = still m is.prime is.there;
          past = is.past;
          first =
              each (λ k y. before x y ≡ true → before y is.prime ≡ false)
              (λ past. both (before x x) past (order.irreflexive x)) is.first;
        }

        elsewhere : (r : Option ℕ) (s : Option Prime) → IsPlace primes r s → (r ≡ q → ⊥) → (m : Option ℕ)
            → IsNext before primes s m → IsNext before more s m
        elsewhere r s here apart None is =
            each (λ k y. is_past before s y ≡ false)
            (by_bool (is_past before s x) (λ past. let w = lower q p at last r s here apart past in both (is_past before s w.1) w.4 (is w.0 w.1 w.2)) (λ isnt. isnt))
            is
        elsewhere r s here apart (Some m) is = record {
          prime = is.prime;
          there = still m is.prime is.there;
          past = is.past;
          first = each (λ k y. is_past before s y ≡ true → before y is.prime ≡ false)
              (λ past. let w = lower q p at last r s here apart past in by_bool (before x is.prime) (λ so. both (before w.1 is.prime) (order.transitive w.1 x is.prime w.3 so) (is.first w.0 w.1 w.2 w.4)) (λ isnt. isnt))
              is.first;
        }

        at_left : (r : Option ℕ) (s : Option Prime) → IsPlace primes r s → r ≡ q → IsNext before more s (new r)
        at_left r s here same =
            subst (λ m. IsNext before more s m) (sym (ap new same ∙ new_left))
            (subst (λ t. IsNext before more t (Some h)) (same_prime q p r s at here (sym same)) to_it)

        at_other : (r : Option ℕ) (s : Option Prime) → IsPlace primes r s → (r ≡ q → ⊥) → IsNext before more s (new r)
        at_other r s here apart =
            subst (λ m. IsNext before more s m) (sym (new_other r s here apart))
            (elsewhere r s here apart (old r) (next r s here))

        -- If a new prime is linked between its neighbours, each link leads to the next prime.
        pub come_between : AreNext before more new
        come_between None None here =
            place_eq None q (λ same. at_left None None here same) (λ apart. at_other None None tt apart)
        come_between None (Some y) here = absurd here
        come_between (Some k) None here = absurd here
        come_between (Some k) (Some y) here =
            by_bool (eqb k h)
            (λ same.
            let is_x : x ≡ y = same_Some _ _ (sym it_is ∙ sym (ap more (eqb-true k h same)) ∙ here) in
            let is_new : n ≡ new (Some k) = sym new_it ∙ ap (λ j. new (Some j)) (sym (eqb-true k h same)) in
            subst (λ z. IsNext before more (Some z) (new (Some k))) is_x (subst (λ m. IsNext before more (Some x) m) is_new (from_it n following)))
            (λ apart.
            let was : primes k ≡ Some y = sym (ap (λ b. cond b (Some x) (primes k)) apart) ∙ sym (more_is k) ∙ here in
            place_eq (Some k) q (λ same. at_left (Some k) (Some y) was same) (λ other. at_other (Some k) (Some y) was other))

      -- x leaves
      module _ (there : primes h ≡ Some x) (fewer : Primes) (fewer_is : (k : ℕ) → fewer k ≡ cond (eqb k h) None (primes k)) (new_left : new q ≡ n) (new_other : (r : Option ℕ) (s : Option Prime) → IsPlace primes r s → (r ≡ q → ⊥) → (r ≡ Some h → ⊥) → new r ≡ old r) where
        left_over : (k : ℕ) (y : Prime) → primes k ≡ Some y → (k ≡ h → ⊥) → fewer k ≡ Some y
        left_over k y was apart =
            fewer_is k
            ∙ by_bool (eqb k h) (λ same. absurd (apart (eqb-true k h same)))
            (λ isnt. ap (λ b. cond b None (primes k)) isnt ∙ was)

        was_there : (k : ℕ) (y : Prime) → fewer k ≡ Some y → (primes k ≡ Some y) × (k ≡ h → ⊥)
        was_there k y left =
            by_bool (eqb k h)
            (λ same. absurd (none-some y (sym (ap (λ b. cond b None (primes k)) same) ∙ sym (fewer_is k) ∙ left)))
            (λ isnt. (sym (ap (λ b. cond b None (primes k)) isnt) ∙ sym (fewer_is k) ∙ left, λ is. both (eqb k h) (eq-eqb k h is) isnt))

        -- one that is past the place before x, and is not x, is past x
        past_it : (k : ℕ) (y : Prime) → primes k ≡ Some y → (k ≡ h → ⊥) → is_past before p y ≡ true → before x y ≡ true
        past_it k y was apart past = other k h y x was name apart (nothing_between q p at last k y was past)

        not_it : (m : ℕ) (z : Prime) → primes m ≡ Some z → before x z ≡ true → m ≡ h → ⊥
        not_it m z was past same =
            both (before x z) past
            (ap (before x) (same_Some z x (sym was ∙ ap primes same ∙ there)) ∙ order.irreflexive x)

        over_it : (m : Option ℕ) → IsNext before primes (Some x) m → IsNext before fewer p m
        over_it None is = λ k y left.
            let was = was_there k y left in
            by_bool (is_past before p y) (λ past. both (before x y) (past_it k y was.0 was.1 past) (is k y was.0))
            (λ isnt. isnt)
        over_it (Some m) is = record {
          prime = is.prime;
          there = left_over m is.prime is.there (not_it m is.prime is.there is.past);
          past = past_both p x is.prime (x_is_past q p at last) is.past;
          first = λ k y left past. let was = was_there k y left in is.first k y was.0 (past_it k y was.0 was.1 past);
        }

        apart_from_it : (r : Option ℕ) (s : Option Prime) → IsPlace primes r s → (r ≡ q → ⊥) → (m : Option ℕ)
            → IsNext before primes s m → IsNext before fewer s m
        apart_from_it r s here apart None is = λ k y left. is k y (was_there k y left).0
        apart_from_it r s here apart (Some m) is = record {
          prime = is.prime;
          there = left_over m is.prime is.there not_x;
          past = is.past;
          first = λ k y left past. is.first k y (was_there k y left).0 past;
        }
          where
            not_x : m ≡ h → ⊥
            not_x same =
                let is_x : is.prime ≡ x = same_Some is.prime x (sym is.there ∙ ap primes same ∙ there) in
                let w = lower q p at last r s here apart (ap (is_past before s) (sym is_x) ∙ is.past) in
                both (before w.1 x) w.3 (ap (before w.1) (sym is_x) ∙ is.first w.0 w.1 w.2 w.4)

        kept_left : (r : Option ℕ) (s : Option Prime) → IsPlace primes r s → r ≡ q → IsNext before fewer s (new r)
        kept_left r s here same =
            subst (λ m. IsNext before fewer s m) (sym (ap new same ∙ new_left))
            (subst (λ t. IsNext before fewer t n) (same_prime q p r s at here (sym same)) (over_it n following))

        kept_other : (r : Option ℕ) (s : Option Prime) → IsPlace primes r s → (r ≡ q → ⊥) → (r ≡ Some h → ⊥)
            → IsNext before fewer s (new r)
        kept_other r s here apart not_x =
            subst (λ m. IsNext before fewer s m) (sym (new_other r s here apart not_x))
            (apart_from_it r s here apart (old r) (next r s here))

        -- If the neighbours of a removed prime are linked, each link leads to the next prime.
        pub leave : AreNext before fewer new
        leave None None here =
            place_eq None q (λ same. kept_left None None tt same)
            (λ apart. kept_other None None tt apart (λ is. none-some h is))
        leave None (Some y) here = absurd here
        leave (Some k) None here = absurd here
        leave (Some k) (Some y) here =
            let was = was_there k y here in
            place_eq (Some k) q (λ same. kept_left (Some k) (Some y) was.0 same)
            (λ apart. kept_other (Some k) (Some y) was.0 apart (λ is. was.1 (same_Some k h is)))

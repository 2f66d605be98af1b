-- The masters below one are its direct lessees and those below them.
use Rattle.std.proofs.Common.{◌≡◌, ℕ, suc, zero, ◌+◌, ◌<◌, ◌≤◌, ◌==◌, Bool, true, false, cond, not, ◌&&◌, ◌||◌, List, [], ◌∷◌, filter, take, length, Option, None, Some, refl, sym, ap, subst, ◌∙◌, inl, inr, arith, eq-eqb}
use Rattle.std.proofs.Math.Bool.{and-true}
use Rattle.drm_masters.proofs.MasterChains.{same_bool}
use Rattle.std.specs.Prelude.{slice_get, ◌⊎◌}
use Rattle.std.specs.List.{list_any, AllByRecursion}
use Rattle.std.specs.Option.{option_and_then}
use Rattle.std.proofs.lemmas.Bool.{eqb-true, false≢true, or_left, or_right, and_parts}
use Rattle.std.proofs.lemmas.Option.{slice_get_within}
use Rattle.drm_index_array.specs.Chains.{chain_within, is_under}
use Rattle.drm_index_array.specs.Numbers.{is_among}
use Rattle.drm_index_array.specs.Orders.{InOrder}
use Rattle.drm_index_array.proofs.Chains.{IsFalling, itself, child, above_too}
use Rattle.drm_index_array.proofs.Lists.{all_both, all_filter, all_mapped, all_each, filter_true, filter-both, filter-same, list_any-map}
use Rattle.drm_index_array.proofs.FoundInLists.{all_at}
use Rattle.drm_index_array.proofs.Orders.{in_order_filter, in_order_map}
use Rattle.drm_index_array.proofs.Rising.{found, any_found, all_found}
use Rattle.drm_masters.specs.declared.rows.Master.{Master}
use Rattle.drm_masters.specs.Masters.{MasterSet, AreMasters, HasOlderLessor, is_step_number, is_option, master_at, lessor_of, lessees_of, is_below}
use Rattle.drm_masters.proofs.Looked.{any_pushed}

-- numbers that rise from one on are at their places or beyond
risen : (k : ℕ) (xs : List ℕ) (i n : ℕ) → AllByRecursion (λ x. k ≤ x) xs → InOrder (λ x y. x < y) xs
    → slice_get xs i ≡ Some n → i + k ≤ n
risen k [] i n low rise at = absurd (let e : None ≡ Some n = at in cc)
risen k (x ∷ xs) zero n low rise at = let e : x ≡ n = (let s : Some x ≡ Some n = at in cc) in let le = low.0 in omega (arith, e, le)
risen k (x ∷ xs) (suc i) n low rise at =
    let le = low.0 in
    let more = risen (suc k) xs i n (all_more xs rise.0) rise.1 at in omega (arith, more)
  where
    all_more : (ys : List ℕ) → AllByRecursion (λ y. x < y) ys → AllByRecursion (λ y. suc k ≤ y) ys
    all_more [] h = tt
    all_more (y ∷ ys) h = (let lt = h.0 in let le = low.0 in omega (arith, lt, le), all_more ys h.1)

-- what is in a chain is no greater than its first
in_chain : (above : ℕ → Option ℕ) → IsFalling above → (s n y : ℕ) → is_among (chain_within s above n) y ≡ true → y ≤ n
unfolding chain_within
in_chain above falls zero n y h = by_test (n == y) refl h
  where
    by_test : (b : Bool) → (n == y) ≡ b → (b || false) ≡ true → y ≤ n
    by_test true e k = let is = eqb-true n y e in omega (arith, is)
    by_test false e k = absurd (false≢true k)
in_chain above falls (suc s) n y h = by_test (λ m. in_chain above falls s m y) (n == y) refl h
  where
    rest : Option ℕ → List ℕ
    rest o = elim o [ None ↦ [] | Some m ↦ chain_within s above m ]

    higher : ((m : ℕ) → is_among (chain_within s above m) y ≡ true → y ≤ m) → (o : Option ℕ) → above n ≡ o
        → is_among (rest o) y ≡ true → y ≤ n
    higher from None e k = absurd (false≢true k)
    higher from (Some m) e k = let lt = falls n m e in let le = from m k in omega (arith, lt, le)

    by_test : ((m : ℕ) → is_among (chain_within s above m) y ≡ true → y ≤ m) → (b : Bool) → (n == y) ≡ b
        → (b || is_among (rest (above n)) y) ≡ true → y ≤ n
    by_test from true e k = let is = eqb-true n y e in omega (arith, is)
    by_test from false e k = higher from (above n) refl k

take_past : (xs : List ℕ) (i : ℕ) → slice_get xs i ≡ None → take i xs ≡ xs
take_past [] zero h = refl
take_past [] (suc i) h = refl
take_past (x ∷ xs) zero h = absurd (let n : Some x ≡ None = h in cc)
take_past (x ∷ xs) (suc i) h = ap (λ l. x ∷ l) (take_past xs i h)

any_where : {X : Type 0} (p q : X → Bool) → (xs : List X) → list_any (λ x. q x && p x) xs ≡ true
    → list_any p (filter q xs) ≡ true
any_where p q [] h = h
any_where p q (x ∷ xs) h =
    elim (q x) as (λ b. ((b && p x) || list_any (λ x. q x && p x) xs) ≡ true → list_any p (cond b (x ∷ filter q xs) (filter q xs)) ≡ true) [
      | true ↦ elim (p x) as (λ b. (b || list_any (λ x. q x && p x) xs) ≡ true → (b || list_any p (filter q xs)) ≡ true) [ true ↦ λ k. refl | false ↦ λ k. any_where p q xs k ]
      | false ↦ λ k. any_where p q xs k
    ] h

one_of : {X : Type 0} (P : X → Type 0) (p : X → Bool) → (xs : List X) → AllByRecursion P xs → list_any p xs ≡ true
    → (x : X) × P x × (p x ≡ true)
one_of P p [] all h = absurd (false≢true h)
one_of P p (x ∷ xs) all h =
    elim (p x) as (λ b. p x ≡ b → (b || list_any p xs) ≡ true → (x : _) × P x × (p x ≡ true)) [
      | true ↦ λ e k. (x, all.0, e)
      | false ↦ λ e k. one_of P p xs all.1 k
    ] refl h

-- the master of a lessor's lessee
lessee_of : (ms : List Master) (n l : ℕ) → lessor_of ms n ≡ Some l
    → (x : Master) × (master_at ms n ≡ Some x) × (x.lessor ≡ Some l)
lessee_of ms n l e = by_row (master_at ms n) refl e
  where
    by_row : (o : Option Master) → master_at ms n ≡ o → option_and_then (λ (x : Master). x.lessor) o ≡ Some l
        → (x : Master) × (master_at ms n ≡ Some x) × (x.lessor ≡ Some l)
    by_row None at k = absurd (let n : None ≡ Some l = k in cc)
    by_row (Some x) at k = (x, at, k)

falls : (ms : List Master) → AllByRecursion (HasOlderLessor ms) ms → IsFalling (lessor_of ms)
falls ms older n l e =
    let w = lessee_of ms n l e in
    let is = found (is_step_number n) (HasOlderLessor ms) w.0 ms older w.1 in
    subst (λ m. l < m) (eqb-true w.0.step_number n is.0) (is.1 l w.2).1

module _ (v : MasterSet) (are : AreMasters v) where
  abbrev above : ℕ → Option ℕ
  above = lessor_of v.masters

  falling : IsFalling above
  falling = falls v.masters are.lessors_older

  lessees_are : (m : ℕ) → AllByRecursion (λ n. above n ≡ Some m) (lessees_of v.masters m)
  lessees_are m =
      let q = λ (x : Master). is_option m x.lessor in
      all_mapped (λ n. above n ≡ Some m) (λ (x : Master). x.step_number) (filter q v.masters)
      (all_both (λ (x : Master). master_at v.masters x.step_number ≡ Some x) (λ (x : Master). q x ≡ true) (λ (x : Master). above x.step_number ≡ Some m) (λ x at is. ap (option_and_then (λ (y : Master). y.lessor)) at ∙ named x.lessor is) (filter q v.masters)
      (all_filter (λ (x : Master). master_at v.masters x.step_number ≡ Some x) q v.masters (all_found (λ (x : Master). x.step_number) v.masters are.masters_rise)) (filter_true q v.masters))
    where
      named : (o : Option ℕ) → is_option m o ≡ true → o ≡ Some m
      named None e = absurd (false≢true e)
      named (Some l) e = ap Some (eqb-true l m e)

  -- A direct lessee is younger than its lessor, and its place is at most its number.
  pub its_lessee : (m i n : ℕ) → slice_get (lessees_of v.masters m) i ≡ Some n → (m < n) × (i ≤ n)
  its_lessee m i n at =
      let q = λ (x : Master). is_option m x.lessor in
      let rise =
      in_order_map (λ x y. x < y) (λ (x : Master). x.step_number) (filter q v.masters)
      (in_order_filter (λ (x y : Master). x.step_number < y.step_number) q v.masters are.masters_rise) in
      let le = risen 0 (lessees_of v.masters m) i n (all_each (λ x. 0 ≤ x) (λ x. omega arith) (lessees_of v.masters m)) rise at in (
        falling n m (all_at (λ n. above n ≡ Some m) (lessees_of v.masters m) i n (lessees_are m) at),
        omega (arith, le),
      )

  -- A master is below another if and only if it is a direct lessee of that one, or below one.
  pub below_by_lessees : (m n : ℕ)
      → is_below v.masters m n ≡ list_any (λ y. is_under above y n) (lessees_of v.masters m)
  below_by_lessees m n =
      same_bool (is_below v.masters m n) (list_any (λ y. is_under above y n) (lessees_of v.masters m)) down up
    where
      listed : (y : ℕ) → above y ≡ Some m → is_under above y n ≡ true
          → list_any (λ y. is_under above y n) (lessees_of v.masters m) ≡ true
      listed y e under =
          let w = lessee_of v.masters y m e in
          let q = λ (x : Master). is_option m x.lessor in
          let is : w.0.step_number ≡ y =
          eqb-true w.0.step_number y
          (found (is_step_number y) (λ _. Unit {0}) w.0 v.masters (all_each (λ _. Unit {0}) (λ _. tt) v.masters) w.1).0
          in
          let lent : q w.0 ≡ true = ap (is_option m) w.2 ∙ eq-eqb m m refl in
          list_any-map (λ y. is_under above y n) (λ (x : Master). x.step_number) (filter q v.masters)
          ∙ any_where (λ (x : Master). is_under above x.step_number n) q v.masters
          (any_found (is_step_number y) (λ (x : Master). q x && is_under above x.step_number n) w.0 v.masters w.1 (λ i. lent i && (ap (λ k. is_under above k n) is ∙ under) i))

      down : is_below v.masters m n ≡ true → list_any (λ y. is_under above y n) (lessees_of v.masters m) ≡ true
      down h =
          let w = and_parts (is_under above m n) (not (n == m)) h in
          by_child (child above n m n w.0) w.1
        where
          by_child : (m ≡ n) ⊎ ((y : ℕ) × (above y ≡ Some m) × (is_among (chain_within n above n) y ≡ true))
              → not (n == m) ≡ true → list_any (λ y. is_under above y n) (lessees_of v.masters m) ≡ true
          by_child (inl same) k = absurd (false≢true (ap not (sym (eq-eqb n m (sym same))) ∙ k))
          by_child (inr c) k = listed c.0 c.1 c.2

      up : list_any (λ y. is_under above y n) (lessees_of v.masters m) ≡ true → is_below v.masters m n ≡ true
      up h =
          let w = one_of (λ y. above y ≡ Some m) (λ y. is_under above y n) (lessees_of v.masters m) (lessees_are m) h in
          let under : is_under above m n ≡ true = above_too above falling n w.0 n m (omega arith) w.1 w.2 in
          let lt = falling w.0 m w.1 in
          let le = in_chain above falling n n w.0 w.2 in
          λ i. under i && not (other (n == m) refl lt le i)
        where
          other : {y : ℕ} (b : Bool) → (n == m) ≡ b → m < y → y ≤ n → (n == m) ≡ false
          other true e lt le = let is = eqb-true n m e in absurd (omega (arith, is, lt, le))
          other false e lt le = e

  -- A direct lessee and all below it are below the master.
  pub under_lessee : (m i n k : ℕ) → slice_get (lessees_of v.masters m) i ≡ Some n → is_under above n k ≡ true
      → is_below v.masters m k ≡ true
  under_lessee m i n k at under = below_by_lessees m k ∙ any_at (lessees_of v.masters m) i at
    where
      any_at : (xs : List ℕ) (i : ℕ) → slice_get xs i ≡ Some n → list_any (λ y. is_under above y k) xs ≡ true
      any_at [] i at = absurd (let e : None ≡ Some n = at in cc)
      any_at (x ∷ xs) zero at = let e : x ≡ n = (let s : Some x ≡ Some n = at in cc) in or_left (is_under above x k) (list_any (λ y. is_under above y k) xs) (subst (λ y. is_under above y k ≡ true) (sym e) under)
      any_at (x ∷ xs) (suc i) at =
          or_right (is_under above x k) (list_any (λ y. is_under above y k) xs) (any_at xs i at)

  -- If no direct lessee is left, each master below is one of them or below one.
  pub none_below : (m i k : ℕ) → slice_get (lessees_of v.masters m) i ≡ None → is_below v.masters m k ≡ true
      → list_any (λ y. is_under above y k) (take i (lessees_of v.masters m)) ≡ true
  none_below m i k past h =
      ap (list_any (λ y. is_under above y k)) (take_past (lessees_of v.masters m) i past) ∙ sym (below_by_lessees m k)
      ∙ h

  -- If all direct lessees were visited, the rows of all masters below are removed.
  pub all_taken : {X : Type 0} (lessee : X → ℕ) (m i : ℕ) → slice_get (lessees_of v.masters m) i ≡ None
      → (old now : List X)
      → now ≡ filter (λ x. not (list_any (λ y. is_under above y (lessee x)) (take i (lessees_of v.masters m)))) old →
      now ≡ filter (λ x. not (is_below v.masters m (lessee x))) old
  all_taken lessee m i past old now e =
      e
      ∙ ap (λ l. filter (λ x. not (list_any (λ y. is_under above y (lessee x)) l)) old)
      (take_past (lessees_of v.masters m) i past)
      ∙ filter-same (λ x. not (list_any (λ y. is_under above y (lessee x)) (lessees_of v.masters m)))
      (λ x. not (is_below v.masters m (lessee x))) old
      (all_each (λ x. not (list_any (λ y. is_under above y (lessee x)) (lessees_of v.masters m)) ≡ not (is_below v.masters m (lessee x))) (λ x. ap not (sym (below_by_lessees m (lessee x)))) old)

-- a master and those below it
under_is : (ms : List Master) (top n : ℕ)
    → (not (n == top) && not (is_below ms top n)) ≡ not (is_under (lessor_of ms) top n)
under_is ms top n =
    elim (n == top) as (λ b. (n == top) ≡ b → (not b && not (is_under (lessor_of ms) top n && not b)) ≡ not (is_under (lessor_of ms) top n)) [
      | true ↦ λ e. ap not (sym (ap (λ k. is_under (lessor_of ms) k n) (sym (eqb-true n top e)) ∙ itself (lessor_of ms) n n))
      | false ↦ λ e. ap not (and-true (is_under (lessor_of ms) top n))
    ] refl

-- Removing the rows of a master and then of all below it removes those at or under it.
pub under_ended : {X : Type 0} (lessee : X → ℕ) (ms : List Master) (top : ℕ) (rows : List X)
    → filter (λ x. not (is_below ms top (lessee x))) (filter (λ x. not (lessee x == top)) rows) ≡ filter (λ x. not (is_under (lessor_of ms) top (lessee x))) rows
under_ended lessee ms top rows =
    filter-both (λ x. not (is_below ms top (lessee x))) (λ x. not (lessee x == top)) rows
    ∙ filter-same (λ x. not (lessee x == top) && not (is_below ms top (lessee x)))
    (λ x. not (is_under (lessor_of ms) top (lessee x))) rows
    (all_each (λ x. (not (lessee x == top) && not (is_below ms top (lessee x))) ≡ not (is_under (lessor_of ms) top (lessee x))) (λ x. under_is ms top (lessee x)) rows)

-- After the rows at or below one more direct lessee are removed, those of all up to its place are removed.
pub one_ended : {X : Type 0} (lessee : X → ℕ) (v : MasterSet) (m i n : ℕ)
    → slice_get (lessees_of v.masters m) i ≡ Some n → (old before mid : List X)
    → before ≡ filter (λ x. not (list_any (λ y. is_under (lessor_of v.masters) y (lessee x)) (take i (lessees_of v.masters m)))) old
    → mid ≡ filter (λ x. not (lessee x == n)) before →
    filter (λ x. not (is_below v.masters n (lessee x))) mid ≡ filter
    (λ x. not (list_any (λ y. is_under (lessor_of v.masters) y (lessee x)) (take (i + 1) (lessees_of v.masters m)))) old
one_ended lessee v m i n at old before mid e f =
    let above = lessor_of v.masters in
    let xs = lessees_of v.masters m in
    ap (filter (λ x. not (is_below v.masters n (lessee x)))) f ∙ under_ended lessee v.masters n before
    ∙ ap (filter (λ x. not (is_under above n (lessee x)))) e
    ∙ filter-both (λ x. not (is_under above n (lessee x)))
    (λ x. not (list_any (λ y. is_under above y (lessee x)) (take i xs))) old
    ∙ filter-same
    (λ x. not (list_any (λ y. is_under above y (lessee x)) (take i xs)) && not (is_under above n (lessee x)))
    (λ x. not (list_any (λ y. is_under above y (lessee x)) (take (i + 1) xs))) old
    (all_each (λ x. (not (list_any (λ y. is_under above y (lessee x)) (take i xs)) && not (is_under above n (lessee x))) ≡ not (list_any (λ y. is_under above y (lessee x)) (take (i + 1) xs)))
    (λ x. neither (list_any (λ y. is_under above y (lessee x)) (take i xs)) (is_under above n (lessee x)) ∙ ap not (sym (any_pushed xs i n at (λ y. is_under above y (lessee x))))) old)
  where
    neither : (a b : Bool) → (not a && not b) ≡ not (b || a)
    neither true true = refl
    neither true false = refl
    neither false true = refl
    neither false false = refl

-- A place with an element is within the list.
pub position_within : (xs : List ℕ) (i n : ℕ) → slice_get xs i ≡ Some n → i < length xs
position_within xs i n at = slice_get_within xs i n at

-- What is true of the leases at all times is true after each change.
use Rattle.std.proofs.Common.{◌≡◌, ℕ, ◌+◌, ◌<◌, ◌≤◌, ◌==◌, nat_lt, inl, inr, Bool, true, false, cond, not, ◌||◌, List, [], ◌∷◌, ◌++◌, map, filter, find, length, Option, None, Some, refl, sym, ap, subst, ◌∙◌, arith, eq-eqb}
use Rattle.std.specs.Prelude.{unwrap_or, IfNone}
use Rattle.std.specs.Option.{is_some, option_map}
use Rattle.std.specs.List.{list_any, AllByRecursion}
use Rattle.std.proofs.lemmas.List.{length-map}
use Rattle.std.proofs.lemmas.Bool.{eqb-true, ne_eqb, false≢true, or_right}
use Rattle.std.proofs.lemmas.Bool.Decides.{nat_tests}
use Rattle.drm_index_array.specs.Least.{least}
use Rattle.drm_index_array.specs.Rows.{placed}
use Rattle.drm_index_array.proofs.Least.{least_some}
use Rattle.drm_id_alloc.specs.Table.{or_else}
use Rattle.drm_index_array.specs.Orders.{InOrder}
use Rattle.drm_index_array.proofs.Lists.{all_weaker, all_both, all_each, all_append, all_filter, all_mapped, filter_true, filter-shorter, length-filter_append}
use Rattle.drm_index_array.proofs.Numbers.{flipped}
use Rattle.drm_index_array.proofs.Each.{any_filter}
use Rattle.drm_index_array.proofs.Placed.{all_placed, any_placed, placed_back, in_order_placed, rise_placed}
use Rattle.drm_index_array.proofs.Orders.{same_parts, in_order_filter, in_order_map, in_order_weaker}
use Rattle.drm_leases.specs.declared.rows.Grant.{Grant}
use Rattle.drm_leases.specs.declared.rows.Lease.{Lease}
use Rattle.drm_leases.specs.Tokens.{LeaseToken, token_before}
use Rattle.drm_leases.specs.Masks.{lease_before}
use Rattle.drm_leases.specs.Leases.{LeaseSet, Lending, AreLeases, is_lease_of, has_some_lease, is_token, is_free, is_grant_of, grant_before, next_token, token_master}
use Rattle.drm_leases.specs.Calls.{grant, lending, lending_before, lease_token, with_lease, without_token}

-- ---- rows go

fewer : {X : Type 0} (p q : X → Bool) → (xs : List X) → length (filter p (filter q xs)) ≤ length (filter p xs)
fewer p q [] = omega arith
fewer p q (x ∷ xs) =
    let less = fewer p q xs in
    let rest = filter p (filter q xs) in
    elim (q x) as (λ b. length (filter p (cond b (x ∷ filter q xs) (filter q xs))) ≤ length (cond (p x) (x ∷ filter p xs) (filter p xs))) [
      | true ↦ elim (p x) as (λ b. length (cond b (x ∷ rest) rest) ≤ length (cond b (x ∷ filter p xs) (filter p xs))) [ true ↦ omega (arith, less) | false ↦ less ]
      | false ↦ elim (p x) as (λ b. length rest ≤ length (cond b (x ∷ filter p xs) (filter p xs))) [ true ↦ omega (arith, less) | false ↦ less ]
    ]

module _ (l : LeaseSet) (a : AreLeases l) where
  -- The facts of leases hold with fewer tokens.
  pub fewer_tokens : (p : LeaseToken → Bool) → AreLeases (record l { tokens = filter p l.tokens })
  fewer_tokens p = record {
    last_high = a.last_high;
    given_high = a.given_high;
    tokens_low = all_filter (λ (row : LeaseToken). 1 ≤ row.token) p l.tokens a.tokens_low;
    tokens_rise = in_order_filter (λ (x y : LeaseToken). x.token < y.token) p l.tokens a.tokens_rise;
    lessees_differ = in_order_filter (λ (x y : LeaseToken). (x.master == y.master) ≡ false) p l.tokens a.lessees_differ;
    grants_rise = a.grants_rise;
    few = a.few;
    tokens_lent =
        all_filter (λ (row : LeaseToken). has_some_lease l.lendings row.master ≡ true) p l.tokens a.tokens_lent;
    grants_lent = a.grants_lent;
  }

  -- the leases and open tokens of some lessees go
  module _ (gone : ℕ → Bool) where
    abbrev kept : List Lending
    kept = filter (λ (x : Lending). not (gone x.lessee)) l.lendings

    kept_lent : (m : ℕ) → not (gone m) ≡ true → has_some_lease l.lendings m ≡ true → has_some_lease kept m ≡ true
    kept_lent m stays h =
        any_filter (λ _. Unit {0}) (is_lease_of m) (λ (x : Lending). not (gone x.lessee))
        (λ x u is. ap (λ n. not (gone n)) (eqb-true x.lessee m is) ∙ stays) l.lendings
        (all_each (λ _. Unit {0}) (λ _. tt) l.lendings) h

    -- The facts of leases hold without all rows of some lessees.
    pub without_are : AreLeases (record l { tokens = filter (λ (row : LeaseToken). not (gone row.master)) l.tokens; grants = filter (λ (g : Grant). not (gone g.master)) l.grants; lendings = kept })
    without_are = record {
      last_high = a.last_high;
      given_high = a.given_high;
      tokens_low =
          all_filter (λ (row : LeaseToken). 1 ≤ row.token) (λ (row : LeaseToken). not (gone row.master)) l.tokens
          a.tokens_low;
      tokens_rise =
          in_order_filter (λ (x y : LeaseToken). x.token < y.token) (λ (row : LeaseToken). not (gone row.master))
          l.tokens a.tokens_rise;
      lessees_differ =
          in_order_filter (λ (x y : LeaseToken). (x.master == y.master) ≡ false)
          (λ (row : LeaseToken). not (gone row.master)) l.tokens a.lessees_differ;
      grants_rise = in_order_filter grant_before (λ (g : Grant). not (gone g.master)) l.grants a.grants_rise;
      few = λ m.
          let object = λ (g : Grant). g.mode_object in
          let now = length-map (filter (is_grant_of m) (filter (λ (g : Grant). not (gone g.master)) l.grants)) object in
          let old = length-map (filter (is_grant_of m) l.grants) object in
          let less = fewer (is_grant_of m) (λ (g : Grant). not (gone g.master)) l.grants in
          let few = a.few m in
          omega (arith, now, old, less, few);
      tokens_lent =
          all_both (λ (row : LeaseToken). not (gone row.master) ≡ true)
          (λ (row : LeaseToken). has_some_lease l.lendings row.master ≡ true)
          (λ (row : LeaseToken). has_some_lease kept row.master ≡ true) (λ row stays h. kept_lent row.master stays h)
          (filter (λ (row : LeaseToken). not (gone row.master)) l.tokens)
          (filter_true (λ (row : LeaseToken). not (gone row.master)) l.tokens)
          (all_filter (λ (row : LeaseToken). has_some_lease l.lendings row.master ≡ true) (λ (row : LeaseToken). not (gone row.master)) l.tokens a.tokens_lent);
      grants_lent =
          all_both (λ (g : Grant). not (gone g.master) ≡ true)
          (λ (g : Grant). has_some_lease l.lendings g.master ≡ true)
          (λ (g : Grant). has_some_lease kept g.master ≡ true) (λ g stays h. kept_lent g.master stays h)
          (filter (λ (g : Grant). not (gone g.master)) l.grants)
          (filter_true (λ (g : Grant). not (gone g.master)) l.grants)
          (all_filter (λ (g : Grant). has_some_lease l.lendings g.master ≡ true) (λ (g : Grant). not (gone g.master)) l.grants a.grants_lent);
    }

-- ---- the token that is assigned next

next_of : (test : ℕ → Bool) (given last t : ℕ) → (o : Option ℕ) → least test (given + 1) last ≡ o
    → or_else o (least test 1 last) ≡ Some t → (1 ≤ t) × (t ≤ last) × (test t ≡ true)
next_of test given last t None e h = let is = least_some test 1 last t h in (is.at_least, is.at_most, is.passes)
next_of test given last t (Some n) e h =
    let same : n ≡ t = let s : Some n ≡ Some t = h in cc in
    let is = least_some test (given + 1) last t (e ∙ ap Some same) in
    (let low = is.at_least in omega (arith, low), is.at_most, is.passes)

-- The next token is between 1 and the last one and is free.
pub next_is : (l : LeaseSet) (t : ℕ) → next_token l ≡ Some t → (1 ≤ t) × (t ≤ l.last) × (is_free l.tokens t ≡ true)
next_is l t h =
    next_of (is_free l.tokens) (unwrap_or l.last_given 0) l.last t
    (least (is_free l.tokens) (unwrap_or l.last_given 0 + 1) l.last) refl h

not_passing : {X : Type 0} (p : X → Bool) → (xs : List X) → not (list_any p xs) ≡ true
    → AllByRecursion (λ x. p x ≡ false) xs
not_passing p [] h = tt
not_passing p (x ∷ xs) h =
    (elim (p x) as (λ b. p x ≡ b → not (b || list_any p xs) ≡ true → AllByRecursion (λ x. p x ≡ false) (x ∷ xs)) [
      | true ↦ λ e k. absurd (let j : false ≡ true = k in cc)
      | false ↦ λ e k. (e, not_passing p xs k)
    ]) refl h

-- ---- a lease is added

in_order_both : {X : Type 0} (R : X → X → Type 0) → (xs ys : List X) → InOrder R xs → InOrder R ys
    → AllByRecursion (λ x. AllByRecursion (R x) ys) xs → InOrder R (xs ++ ys)
in_order_both R [] ys h k m = k
in_order_both R (x ∷ xs) ys h k m = (all_append (R x) xs ys h.0 m.0, in_order_both R xs ys h.1 k m.1)

none_pass : {X : Type 0} (p : X → Bool) → (xs : List X) → AllByRecursion (λ x. p x ≡ false) xs
    → length (filter p xs) ≡ 0
none_pass p [] h = refl
none_pass p (x ∷ xs) h = ap (λ b. length (cond b (x ∷ filter p xs) (filter p xs))) h.0 ∙ none_pass p xs h.1

-- the grants of one lessee among those of a lease
its_grants : (m k : ℕ) (objects : List ℕ) → length (filter (is_grant_of k) (map (grant m) objects)) ≤ length objects
its_grants m k objects = let less = filter-shorter (is_grant_of k) (map (grant m) objects) in let e = length-map objects (grant m) in omega (arith, less, e)

module _ (l : LeaseSet) (a : AreLeases l) (t key m lessor : ℕ) (objects : List ℕ) (unlent : has_some_lease l.lendings m ≡ false) (next : next_token l ≡ Some t) (rise : InOrder (λ x y. x < y) objects) (few : length objects ≤ 64) where
  abbrev grants : List Grant
  grants = map (grant m) objects

  -- who has a lease is another
  another : (n : ℕ) → has_some_lease l.lendings n ≡ true → (n == m) ≡ false
  another n h = ne_eqb n m (λ same. false≢true (sym unlent ∙ ap (has_some_lease l.lendings) (sym same) ∙ h))

  other_tokens : AllByRecursion (λ (row : LeaseToken). (row.master == m) ≡ false) l.tokens
  other_tokens =
      all_weaker (λ (row : LeaseToken). has_some_lease l.lendings row.master ≡ true)
      (λ (row : LeaseToken). (row.master == m) ≡ false) (λ row h. another row.master h) l.tokens a.tokens_lent

  other_grants : AllByRecursion (λ (g : Grant). (g.master == m) ≡ false) l.grants
  other_grants =
      all_weaker (λ (g : Grant). has_some_lease l.lendings g.master ≡ true) (λ (g : Grant). (g.master == m) ≡ false)
      (λ g h. another g.master h) l.grants a.grants_lent

  -- who has a lease now
  abbrev lent : List Lending
  lent = placed lending_before (lending m lessor key) l.lendings

  lent_now : (n : ℕ) → has_some_lease lent n ≡ ((m == n) || has_some_lease l.lendings n)
  lent_now n =
      any_placed (is_lease_of n) (λ (x : Lending). lending_before x (lending m lessor key)) (lending m lessor key)
      l.lendings

  lent_yet : (n : ℕ) → has_some_lease l.lendings n ≡ true → has_some_lease lent n ≡ true
  lent_yet n h = lent_now n ∙ or_right (m == n) (has_some_lease l.lendings n) h

  lent_too : has_some_lease lent m ≡ true
  lent_too = lent_now m ∙ ap (λ b. b || has_some_lease l.lendings m) (eq-eqb m m refl)

  is : (1 ≤ t) × (t ≤ l.last) × (is_free l.tokens t ≡ true)
  is = next_is l t next

  abbrev is_fore : Grant → Bool
  is_fore g = nat_lt g.master m

  abbrev fore : List Grant
  fore = filter is_fore l.grants

  abbrev behind : List Grant
  behind = filter (λ g. not (is_fore g)) l.grants

  abbrev all : List Grant
  all = fore ++ (grants ++ behind)

  -- those of a lessee are those that it had, and the new ones
  parts_of : (k : ℕ)
      → length (filter (is_grant_of k) all) ≡ length (filter (is_grant_of k) l.grants) + length (filter (is_grant_of k) grants)
  parts_of k =
      let one = length-filter_append (is_grant_of k) fore (grants ++ behind) in
      let two = length-filter_append (is_grant_of k) grants behind in
      let old = same_parts is_fore l.grants (is_grant_of k) in
      let both = length-filter_append (is_grant_of k) fore behind in
      omega (arith, one, two, old, both)

  few_of : (k : ℕ) (b : Bool) → (k == m) ≡ b → length (filter (is_grant_of k) all) ≤ 64
  few_of k true e =
      let parts = parts_of k in
      let old =
      none_pass (is_grant_of k) l.grants
      (subst (λ n. AllByRecursion (λ (g : Grant). (g.master == n) ≡ false) l.grants) (sym (eqb-true k m e)) other_grants)
      in
      let less = its_grants m k objects in
      omega (arith, parts, old, less, few)
  few_of k false e =
      let parts = parts_of k in
      let none =
      none_pass (is_grant_of k) grants
      (all_mapped (λ (g : Grant). is_grant_of k g ≡ false) (grant m) objects (all_each (λ x. is_grant_of k (grant m x) ≡ false) (λ x. flipped k m e) objects))
      in
      let old = a.few k in
      let e2 = length-map (filter (is_grant_of k) l.grants) (λ (g : Grant). g.mode_object) in
      omega (arith, parts, none, old, e2)

  below : AllByRecursion (λ (g : Grant). g.master < m) fore
  below =
      all_weaker (λ (g : Grant). is_fore g ≡ true) (λ (g : Grant). g.master < m) (λ g e. less g.master e) fore
      (filter_true is_fore l.grants)
    where
      less : (n : ℕ) → nat_lt n m ≡ true → n < m
      less n e = grind (arith, nat_tests)

  above : AllByRecursion (λ (g : Grant). m < g.master) behind
  above =
      all_both (λ (g : Grant). not (is_fore g) ≡ true) (λ (g : Grant). (g.master == m) ≡ false)
      (λ (g : Grant). m < g.master) (λ g e other. more g.master e other) behind
      (filter_true (λ g. not (is_fore g)) l.grants)
      (all_filter (λ (g : Grant). (g.master == m) ≡ false) (λ g. not (is_fore g)) l.grants other_grants)
    where
      more : (n : ℕ) → not (nat_lt n m) ≡ true → (n == m) ≡ false → m < n
      more n e other = grind (arith, nat_tests)

  new_rise : InOrder grant_before grants
  new_rise =
      in_order_map grant_before (grant m) objects
      (in_order_weaker (λ x y. x < y) (λ x y. grant_before (grant m x) (grant m y)) (λ x y lt. inr (refl, lt)) objects rise)

  -- The facts of leases hold after a lease is added to a lessee that has none.
  pub lease_are : AreLeases (with_lease t key m lessor objects l)
  lease_are = record {
    last_high = a.last_high;
    given_high = is.1;
    tokens_low =
        all_placed (λ (row : LeaseToken). 1 ≤ row.token) (λ (row : LeaseToken). token_before row (lease_token t m))
        (lease_token t m) l.tokens is.0 a.tokens_low;
    tokens_rise =
        rise_placed (λ (row : LeaseToken). row.token) (lease_token t m) l.tokens a.tokens_rise
        (not_passing (is_token t) l.tokens is.2);
    lessees_differ =
        in_order_placed (λ (row : LeaseToken). row.token) (lease_token t m) l.tokens a.tokens_rise
        (λ (x y : LeaseToken). (x.master == y.master) ≡ false) a.lessees_differ
        (all_weaker (λ (row : LeaseToken). (row.master == m) ≡ false) (λ (row : LeaseToken). row.token < t → (row.master == m) ≡ false) (λ row e lt. e) l.tokens other_tokens)
        (all_weaker (λ (row : LeaseToken). (row.master == m) ≡ false) (λ (row : LeaseToken). nat_lt row.token t ≡ false → (m == row.master) ≡ false) (λ row e k. flipped row.master m e) l.tokens other_tokens);
    grants_rise =
        in_order_both grant_before fore (grants ++ behind) (in_order_filter grant_before is_fore l.grants a.grants_rise)
        (in_order_both grant_before grants behind new_rise (in_order_filter grant_before (λ g. not (is_fore g)) l.grants a.grants_rise) (all_mapped (λ (g : Grant). AllByRecursion (grant_before g) behind) (grant m) objects (all_each (λ x. AllByRecursion (grant_before (grant m x)) behind) (λ x. all_weaker (λ (g : Grant). m < g.master) (grant_before (grant m x)) (λ g lt. inl lt) behind above) objects)))
        (all_weaker (λ (g : Grant). g.master < m) (λ (g : Grant). AllByRecursion (grant_before g) (grants ++ behind)) (λ g lt. all_append (grant_before g) grants behind (all_mapped (grant_before g) (grant m) objects (all_each (λ x. grant_before g (grant m x)) (λ x. inl lt) objects)) (all_weaker (λ (h : Grant). m < h.master) (grant_before g) (λ h more. inl (omega (arith, lt, more))) behind above)) fore below);
    few = λ k. let e = length-map (filter (is_grant_of k) all) (λ (g : Grant). g.mode_object) in let less = few_of k (k == m) refl in omega (arith, e, less);
    tokens_lent =
        all_placed (λ (row : LeaseToken). has_some_lease lent row.master ≡ true)
        (λ (row : LeaseToken). token_before row (lease_token t m)) (lease_token t m) l.tokens lent_too
        (all_weaker (λ (row : LeaseToken). has_some_lease l.lendings row.master ≡ true) (λ (row : LeaseToken). has_some_lease lent row.master ≡ true) (λ row h. lent_yet row.master h) l.tokens a.tokens_lent);
    grants_lent =
        all_append (λ (g : Grant). has_some_lease lent g.master ≡ true) fore (grants ++ behind) (old_lent is_fore)
        (all_append (λ (g : Grant). has_some_lease lent g.master ≡ true) grants behind (all_mapped (λ (g : Grant). has_some_lease lent g.master ≡ true) (grant m) objects (all_each (λ x. has_some_lease lent m ≡ true) (λ x. lent_too) objects)) (old_lent (λ g. not (is_fore g))));
  }
    where
      old_lent : (p : Grant → Bool)
          → AllByRecursion (λ (g : Grant). has_some_lease lent g.master ≡ true) (filter p l.grants)
      old_lent p =
          all_filter (λ (g : Grant). has_some_lease lent g.master ≡ true) p l.grants
          (all_weaker (λ (g : Grant). has_some_lease l.lendings g.master ≡ true) (λ (g : Grant). has_some_lease lent g.master ≡ true) (λ g h. lent_yet g.master h) l.grants a.grants_lent)

-- Removing a new lease again leaves the list unchanged.
pub taken_back : (rows : List Lease) (new : Lease) → InOrder (λ (x y : Lease). x.lessee < y.lessee) rows
    → AllByRecursion (λ (x : Lease). (x.lessee == new.lessee) ≡ false) rows
    → filter (λ (x : Lease). not (x.lessee == new.lessee)) (placed lease_before new rows) ≡ rows
taken_back rows new rise others =
    placed_back (λ (x : Lease). x.lessee) new rows rise (λ (x : Lease). not (x.lessee == new.lessee))
    (ap not (eq-eqb new.lessee new.lessee refl))
    (all_weaker (λ (x : Lease). (x.lessee == new.lessee) ≡ false) (λ (x : Lease). not (x.lessee == new.lessee) ≡ true) (λ x e. ap not e) rows others)

-- Removing a token that is not open changes nothing.
pub none_spent : (l new : LeaseSet) (t : ℕ) (o : Option ℕ) → new ≡ without_token t l → o ≡ token_master l.tokens t
    → IfNone o (new ≡ l)
none_spent l new t (Some m) is e = tt
none_spent l new t None is e =
    is ∙ ap (λ rows. record l { tokens = rows }) (stays l.tokens (absent (find (is_token t) l.tokens) (sym e)))
  where
    absent : (o : Option LeaseToken) → option_map (λ (row : LeaseToken). row.master) o ≡ None → o ≡ None
    absent None h = refl
    absent (Some row) h = absurd (let n : Some row.master ≡ None = h in cc)

    stays : (rows : List LeaseToken) → find (is_token t) rows ≡ None
        → filter (λ (row : LeaseToken). not (is_token t row)) rows ≡ rows
    stays [] h = refl
    stays (row ∷ rows) h =
        (elim (is_token t row) as (λ b. is_token t row ≡ b → cond b (Some row) (find (is_token t) rows) ≡ None → filter (λ (row : LeaseToken). not (is_token t row)) (row ∷ rows) ≡ row ∷ rows) [
          | true ↦ λ k n. absurd (let j : Some row ≡ None = n in cc)
          | false ↦ λ k n. ap (λ b. cond (not b) (row ∷ filter (λ (row : LeaseToken). not (is_token t row)) rows) (filter (λ (row : LeaseToken). not (is_token t row)) rows)) k ∙ ap (λ l. row ∷ l) (stays rows n)
        ]) refl h

-- What is required of an option without a value holds if it has one.
pub some_spent : {X : Type 0} (o : Option X) (P : Type 0) → is_some o ≡ true → IfNone o P
some_spent None P e = absurd (false≢true e)
some_spent (Some x) P e = tt

-- If two sets are equal, the facts about one are facts about the other.
pub still : (v l : LeaseSet) → v ≡ l → AreLeases l → AreLeases v
still v l e are = subst AreLeases (sym e) are

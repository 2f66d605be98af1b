-- What lessors have lent, as leases are created and ended.
use Rattle.std.proofs.Common.{◌≡◌, ℕ, ◌<◌, ◌==◌, nat_lt, eqb, Bool, true, false, cond, not, ◌&&◌, ◌||◌, List, [], ◌∷◌, filter, find, Some, None, refl, sym, ap, subst, ◌∙◌, nat_cmp, eq-eqb}
use Rattle.std.proofs.Math.Bool.{and-true}
use Rattle.std.specs.Prelude.{unwrap_or, if◌then◌else◌}
use Rattle.std.specs.FinMap as fin
use Rattle.std.specs.List.{AllByRecursion}
use Rattle.std.proofs.lemmas.Bool.{eqb-true, false≢true, and_parts, or_parts}
use Rattle.drm_index_array.specs.Orders.{InOrder}
use Rattle.drm_index_array.specs.Rows.{placed}
use Rattle.drm_index_array.proofs.Lists.{all_weaker}
use Rattle.drm_index_array.proofs.Orders.{in_order_filter}
use Rattle.drm_index_array.proofs.Placed.{any_placed, in_order_placed}
use Rattle.drm_leases.specs.declared.rows.Lease.{Lease}
use Rattle.drm_index_array.proofs.MarkedLemmas.{get-insert, get-remove}
use Rattle.drm_leases.specs.Masks.{has_object, lease_before, lends, is_lent, AreApart, mask_at}
use Rattle.drm_leases.proofs.Bits.{empty_mask}
use Rattle.drm_leases.proofs.Granting.{Rise, is_of, absent_behind}

-- ---- a lease is added

-- After a lease is added, a lessor has lent what it had lent and what this lease has.
pub lent_added : (rows : List Lease) (a : Lease) (m x : ℕ)
    → is_lent (placed lease_before a rows) m x ≡ (is_lent rows m x || lends m x a)
lent_added rows a m x =
    any_placed (lends m x) (λ (b : Lease). lease_before b a) a rows ∙ turned (lends m x a) (is_lent rows m x)
  where
    turned : (b c : Bool) → (b || c) ≡ (c || b)
    turned true true = refl
    turned true false = refl
    turned false true = refl
    turned false false = refl

-- With a new lease of objects that its lessor has not lent, no lessor lends an object twice.
pub apart_added : (rows : List Lease) (a : Lease) → Rise rows → InOrder AreApart rows
    → ((x : ℕ) → has_object a.objects x ≡ true → is_lent rows a.lessor x ≡ false)
    → InOrder AreApart (placed lease_before a rows)
apart_added rows a rise apart unlent =
    in_order_placed (λ (x : Lease). x.lessee) a rows rise AreApart apart
    (all_weaker (λ (b : Lease). AreApart b a) (λ (b : Lease). b.lessee < a.lessee → AreApart b a) (λ b h lt. h) rows (each rows unlent))
    (all_weaker (λ (b : Lease). AreApart b a) (λ (b : Lease). nat_lt b.lessee a.lessee ≡ false → AreApart a b) (λ b h e. turned b h) rows (each rows unlent))
  where
    test : (b : Bool) → (b ≡ true → false ≡ true) → b ≡ false
    test true f = absurd (false≢true (f refl))
    test false f = refl

    turned : (b : Lease) → AreApart b a → AreApart a b
    turned b h m x lent = test (lends m x b) (λ e. sym (h m x e) ∙ lent)

    each : (bs : List Lease) → ((x : ℕ) → has_object a.objects x ≡ true → is_lent bs a.lessor x ≡ false)
        → AllByRecursion (λ (b : Lease). AreApart b a) bs
    each [] h = tt
    each (b ∷ bs) h = (
      (λ m x lent. test (lends m x a) (λ e.
          let its = and_parts (a.lessor == m) (has_object a.objects x) e in
          let is : a.lessor ≡ m = eqb-true a.lessor m its.0 in
          sym (or_parts (lends a.lessor x b) (is_lent bs a.lessor x) (h x its.1)).0 ∙ ap (λ n. lends n x b) is ∙ lent)),
      each bs (λ x has. (or_parts (lends a.lessor x b) (is_lent bs a.lessor x) (h x has)).1),
    )

-- ---- a lease is removed

not_lends : (rows : List Lease) (a : Lease) (m x : ℕ) → AllByRecursion (AreApart a) rows → lends m x a ≡ true
    → is_lent rows m x ≡ false
not_lends [] a m x h e = refl
not_lends (b ∷ rows) a m x h e = ap (λ t. t || is_lent rows m x) (h.0 m x e) ∙ not_lends rows a m x h.1 e

none_there : (c : ℕ) → (rows : List Lease) → find (is_of c) rows ≡ None
    → filter (λ (b : Lease). not (b.lessee == c)) rows ≡ rows
none_there c [] h = refl
none_there c (b ∷ rows) h =
    elim (b.lessee == c) as (λ t. (b.lessee == c) ≡ t → cond t (Some b) (find (is_of c) rows) ≡ None → cond (not t) (b ∷ filter (λ (b : Lease). not (b.lessee == c)) rows) (filter (λ (b : Lease). not (b.lessee == c)) rows) ≡ b ∷ rows) [
      | true ↦ λ e k. absurd (let n : Some b ≡ None = k in cc)
      | false ↦ λ e k. ap (λ l. b ∷ l) (none_there c rows k)
    ] refl h

-- Removing the lease of a lessee that has none leaves the list unchanged.
pub removed_none : (c : ℕ) (rows : List Lease) → find (is_of c) rows ≡ None
    → rows ≡ filter (λ (b : Lease). not (b.lessee == c)) rows
removed_none c rows h = sym (none_there c rows h)

found_apart : (c : ℕ) (a b : Lease) → (rows : List Lease) → find (is_of c) rows ≡ Some a
    → AllByRecursion (AreApart b) rows → AreApart b a
found_apart c a b [] h all = absurd (let n : None ≡ Some a = h in cc)
found_apart c a b (d ∷ rows) h all =
    elim (is_of c d) as (λ t. cond t (Some d) (find (is_of c) rows) ≡ Some a → AreApart b a) [
      | true ↦ λ k. let same : d ≡ a = (let s : Some d ≡ Some a = k in cc) in subst (AreApart b) same all.0
      | false ↦ λ k. found_apart c a b rows k all.1
    ] h

-- After a lease is removed, a lessor has lent what it had lent except what this lease had.
pub lent_removed : (c : ℕ) (a : Lease) (m x : ℕ) → (rows : List Lease) → Rise rows → InOrder AreApart rows
    → find (is_of c) rows ≡ Some a
    → is_lent (filter (λ (b : Lease). not (b.lessee == c)) rows) m x ≡ (is_lent rows m x && not (lends m x a))
lent_removed c a m x [] rise apart h = absurd (let n : None ≡ Some a = h in cc)
lent_removed c a m x (b ∷ rows) rise apart h =
    elim (is_of c b) as (λ t. is_of c b ≡ t → cond t (Some b) (find (is_of c) rows) ≡ Some a → is_lent (cond (not t) (b ∷ filter (λ (b : Lease). not (b.lessee == c)) rows) (filter (λ (b : Lease). not (b.lessee == c)) rows)) m x ≡ ((lends m x b || is_lent rows m x) && not (lends m x a))) [
      | true ↦ λ e k.
          let same : b ≡ a = (let s : Some b ≡ Some a = k in cc) in
          let is : b.lessee ≡ c = eqb-true b.lessee c e in
          ap (λ l. is_lent l m x)
          (none_there c rows (absent_behind c rows (subst (λ n. AllByRecursion (λ (d : Lease). n < d.lessee) rows) is rise.0)))
          ∙ first (lends m x b) refl ∙ ap (λ d. (lends m x b || is_lent rows m x) && not (lends m x d)) same
      | false ↦ λ e k. ap (λ t. lends m x b || t) (lent_removed c a m x rows rise.1 apart.1 k) ∙ other (lends m x b) (is_lent rows m x) (lends m x a) (found_apart c a b rows k apart.0 m x)
    ] refl h
  where
    first : (t : Bool) → lends m x b ≡ t → is_lent rows m x ≡ ((lends m x b || is_lent rows m x) && not (lends m x b))
    first true e = not_lends rows b m x apart.0 e ∙ sym (ap (λ t. (t || is_lent rows m x) && not t) e)
    first false e = sym (ap (λ t. (t || is_lent rows m x) && not t) e ∙ and-true (is_lent rows m x))

    other : (p q r : Bool) → (p ≡ true → r ≡ false) → (p || (q && not r)) ≡ ((p || q) && not r)
    other true q r h = sym (ap (λ t. true && not t) (h refl))
    other false q r h = refl

-- ---- fewer leases

-- With fewer leases, no lessor lends a mode object twice.
pub apart_filter : (p : Lease → Bool) (rows : List Lease) → InOrder AreApart rows → InOrder AreApart (filter p rows)
apart_filter p rows h = in_order_filter AreApart p rows h

-- If objects that were not lent are lent and returned, a lessor has lent what it had.
pub lent_back : (rows : List Lease) (m objects : ℕ) → ((x : ℕ) → has_object objects x ≡ true → is_lent rows m x ≡ false)
    → (n x : ℕ)
    → ((is_lent rows n x || ((m == n) && has_object objects x)) && not ((m == n) && has_object objects x)) ≡ is_lent rows n x
lent_back rows m objects unlent n x =
    elim (m == n) as (λ b. (m == n) ≡ b → ((is_lent rows n x || (b && has_object objects x)) && not (b && has_object objects x)) ≡ is_lent rows n x) [
      | true ↦ λ e.
          elim (has_object objects x) as (λ b. has_object objects x ≡ b → ((is_lent rows n x || b) && not b) ≡ is_lent rows n x) [
            | true ↦ λ has. all_none (is_lent rows n x) ∙ sym (ap (λ k. is_lent rows k x) (sym (eqb-true m n e)) ∙ unlent x has)
            | false ↦ λ has. none_back (is_lent rows n x)
          ] refl
      | false ↦ λ e. none_back (is_lent rows n x)
    ] refl
  where
    all_none : (b : Bool) → ((b || true) && false) ≡ false
    all_none true = refl
    all_none false = refl

    none_back : (b : Bool) → ((b || false) && true) ≡ b
    none_back true = refl
    none_back false = refl

-- ---- in the masks

module _ (masks : fin.FinMap nat_cmp ℕ) (m : ℕ) where
  flip : (n : ℕ) → eqb n m ≡ (m == n)
  flip n = elim (m == n) as (λ b. (m == n) ≡ b → eqb n m ≡ b) [
    | true ↦ λ e. ap (λ k. eqb k m) (sym (eqb-true m n e)) ∙ eq-eqb m m refl
    | false ↦ λ e. elim (eqb n m) as (λ b. eqb n m ≡ b → b ≡ false) [ true ↦ λ k. absurd (false≢true (sym e ∙ eq-eqb m n (sym (eqb-true n m k)))) | false ↦ λ k. refl ] refl
  ] refl

  written : (v n : ℕ) → mask_at (fin.insert masks m v) n ≡ (if m == n then v else mask_at masks n)
  written v n = ap (λ o. unwrap_or o 0) (get-insert masks m v n ∙ ap (λ b. cond b (Some v) (fin.get masks n)) (flip n)) ∙ elim (m == n) as (λ b. unwrap_or (cond b (Some v) (fin.get masks n)) 0 ≡ (if b then v else mask_at masks n)) [ true ↦ refl | false ↦ refl ]

  taken : (n : ℕ) → mask_at (fin.remove masks m) n ≡ (if m == n then 0 else mask_at masks n)
  taken n = ap (λ o. unwrap_or o 0) (get-remove masks m n ∙ ap (λ b. cond b None (fin.get masks n)) (flip n)) ∙ elim (m == n) as (λ b. unwrap_or (cond b None (fin.get masks n)) 0 ≡ (if b then 0 else mask_at masks n)) [ true ↦ refl | false ↦ refl ]

  or_none : (b : Bool) → b ≡ (b || false)
  or_none true = refl
  or_none false = refl

  and_all : (b : Bool) → b ≡ (b && true)
  and_all true = refl
  and_all false = refl

  -- more is lent
  more : (v objects : ℕ) → ((x : ℕ) → has_object v x ≡ (has_object (mask_at masks m) x || has_object objects x))
      → (n x : ℕ)
      → has_object (mask_at (fin.insert masks m v) n) x ≡ (has_object (mask_at masks n) x || ((m == n) && has_object objects x))
  more v objects is n x =
      ap (λ k. has_object k x) (written v n)
      ∙ elim (m == n) as (λ b. (m == n) ≡ b → has_object (if b then v else mask_at masks n) x ≡ (has_object (mask_at masks n) x || (b && has_object objects x))) [
        | true ↦ λ e. is x ∙ ap (λ k. has_object (mask_at masks k) x || has_object objects x) (eqb-true m n e)
        | false ↦ λ e. or_none (has_object (mask_at masks n) x)
      ] refl

  -- If a lessor's mask gets a lease's objects, it has these in addition, and other lessors are unchanged.
  pub lent_more : (mask v objects : ℕ) → fin.get masks m ≡ Some mask
      → ((x : ℕ) → has_object v x ≡ (has_object mask x || has_object objects x)) → (n x : ℕ)
      → has_object (mask_at (fin.insert masks m v) n) x ≡ (has_object (mask_at masks n) x || ((m == n) && has_object objects x))
  lent_more mask v objects at is =
      more v objects (λ x. is x ∙ ap (λ o. has_object (unwrap_or o 0) x || has_object objects x) (sym at))

  -- If a lessor without a mask gets one, it has the lease's objects, and other lessors are unchanged.
  pub lent_first : (objects : ℕ) → fin.get masks m ≡ None → (n x : ℕ)
      → has_object (mask_at (fin.insert masks m objects) n) x ≡ (has_object (mask_at masks n) x || ((m == n) && has_object objects x))
  lent_first objects none =
      more objects objects
      (λ x. sym (ap (λ b. b || has_object objects x) (ap (λ o. has_object (unwrap_or o 0) x) none ∙ empty_mask x)))

  -- less is lent
  module _ (left objects : ℕ) (is : (x : ℕ) → has_object left x ≡ (has_object (mask_at masks m) x && not (has_object objects x))) where
    -- If a lessor's mask loses a lease's objects, it has all but these, and other lessors are unchanged.
    pub lent_less : (n x : ℕ)
        → has_object (mask_at (fin.insert masks m left) n) x ≡ (has_object (mask_at masks n) x && not ((m == n) && has_object objects x))
    lent_less n x =
        ap (λ k. has_object k x) (written left n)
        ∙ elim (m == n) as (λ b. (m == n) ≡ b → has_object (if b then left else mask_at masks n) x ≡ (has_object (mask_at masks n) x && not (b && has_object objects x))) [
          | true ↦ λ e. is x ∙ ap (λ k. has_object (mask_at masks k) x && not (has_object objects x)) (eqb-true m n e)
          | false ↦ λ e. and_all (has_object (mask_at masks n) x)
        ] refl

    -- If nothing is left of a lessor's mask, removing it takes the lease's objects and changes no other lessor.
    pub lent_none : left ≡ 0 → (n x : ℕ)
        → has_object (mask_at (fin.remove masks m) n) x ≡ (has_object (mask_at masks n) x && not ((m == n) && has_object objects x))
    lent_none empty n x =
        ap (λ k. has_object k x) (taken n)
        ∙ elim (m == n) as (λ b. (m == n) ≡ b → has_object (if b then 0 else mask_at masks n) x ≡ (has_object (mask_at masks n) x && not (b && has_object objects x))) [
          | true ↦ λ e. ap (λ k. has_object k x) (sym empty) ∙ is x ∙ ap (λ k. has_object (mask_at masks k) x && not (has_object objects x)) (eqb-true m n e)
          | false ↦ λ e. and_all (has_object (mask_at masks n) x)
        ] refl

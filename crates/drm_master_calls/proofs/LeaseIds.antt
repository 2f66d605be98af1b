-- The ids of a lease and the fixed objects that they list are the same, up to order.
use Rattle.std.proofs.Common.{◌≡◌, ℕ, ◌+◌, ◌<◌, ◌≤◌, ◌==◌, nat_lt, Bool, true, false, cond, not, ◌&&◌, ◌||◌, List, [], ◌∷◌, filter, refl, sym, ap, ◌∙◌, subst, eq-eqb, arith}
use Rattle.std.specs.Prelude.{nat_le}
use Rattle.std.specs.List.{list_all}
use Rattle.std.proofs.lemmas.Bool.{eqb-true}
use Rattle.std.proofs.lemmas.Bool.Decides.{nat_tests}
use Rattle.drm_index_array.specs.Numbers.{is_among, count}
use Rattle.drm_index_array.specs.Orders.{SameRows, InOrder}
use Rattle.drm_index_array.proofs.Lists.{all_weaker, filter-same}
use Rattle.drm_index_array.proofs.Numbers.{among-more, all_among, count-it, count-none, count-other, less-differ, flipped}
use Rattle.drm_index_array.proofs.Orders.{same-refl, same-trans, same-cons, same-swap}
use Rattle.drm_modes.specs.Numbers.{numbers_from}
use Rattle.drm_modes.specs.Topology.{Topology, object_count}
use Rattle.drm_modes.proofs.Ids.{is_among-numbers_from}
use Rattle.drm_leases.specs.Calls.{listed_objects}
use Rattle.drm_leases.proofs.ObjectsRise.{numbers_rise}

abbrev Rises : List ℕ → Type 0
Rises numbers = InOrder (λ x y. x < y) numbers

-- one number more is picked out
picked : (x : ℕ) (q : ℕ → Bool) → q x ≡ false → (numbers : List ℕ) → Rises numbers → is_among numbers x ≡ true
    → SameRows (x ∷ filter q numbers) (filter (λ k. (x == k) || q k) numbers)
picked x q not_q [] rise there = absurd (let e : false ≡ true = there in cc)
picked x q not_q (n ∷ ns) rise there =
    (elim (n == x) as (λ b. (n == x) ≡ b → (b || is_among ns x) ≡ true → SameRows (x ∷ filter q (n ∷ ns)) (filter (λ k. (x == k) || q k) (n ∷ ns))) [
      | true ↦ λ e k. here (eqb-true n x e)
      | false ↦ λ e k. later (flipped n x e) (picked x q not_q ns rise.1 k)
    ]) refl there
  where
    here : n ≡ x
        → SameRows (x ∷ cond (q n) (n ∷ filter q ns) (filter q ns)) (cond ((x == n) || q n) (n ∷ filter (λ k. (x == k) || q k) ns) (filter (λ k. (x == k) || q k) ns))
    here is =
        let f = filter q ns in
        let g = filter (λ k. (x == k) || q k) ns in
        let left : cond (q n) (n ∷ f) f ≡ f = ap (λ b. cond b (n ∷ f) f) (ap q is ∙ not_q) in
        let rest : g ≡ f =
        filter-same (λ k. (x == k) || q k) q ns
        (all_weaker (λ k. n < k) (λ k. ((x == k) || q k) ≡ q k) (λ k lt. ap (λ b. b || q k) (ap (λ m. m == k) (sym is) ∙ less-differ n k lt)) ns rise.0)
        in
        let right : cond ((x == n) || q n) (n ∷ g) g ≡ x ∷ f =
        ap (λ b. cond (b || q n) (n ∷ g) g) (eq-eqb x n (sym is)) ∙ (λ i. is i ∷ rest i) in
        subst (λ l. SameRows (x ∷ l) (cond ((x == n) || q n) (n ∷ g) g)) (sym left)
        (subst (λ l. SameRows (x ∷ f) l) (sym right) (same-refl (x ∷ f)))

    later : (x == n) ≡ false → SameRows (x ∷ filter q ns) (filter (λ k. (x == k) || q k) ns)
        → SameRows (x ∷ cond (q n) (n ∷ filter q ns) (filter q ns)) (cond ((x == n) || q n) (n ∷ filter (λ k. (x == k) || q k) ns) (filter (λ k. (x == k) || q k) ns))
    later e again =
        let f = filter q ns in
        let g = filter (λ k. (x == k) || q k) ns in
        subst (λ b. SameRows (x ∷ cond (q n) (n ∷ f) f) (cond (b || q n) (n ∷ g) g)) (sym e)
        (elim (q n) as (λ b. SameRows (x ∷ cond b (n ∷ f) f) (cond b (n ∷ g) g)) [
          | true ↦ same-trans (x ∷ n ∷ f) (n ∷ x ∷ f) (n ∷ g) (same-swap x n f) (same-cons n (x ∷ f) g again)
          | false ↦ again
        ])

none_picked : (numbers : List ℕ) → filter (is_among []) numbers ≡ []
none_picked [] = refl
none_picked (n ∷ ns) = none_picked ns

not_true : (b : Bool) → not b ≡ true → b ≡ false
not_true true e = absurd (let no : false ≡ true = e in cc)
not_true false e = refl

-- each number occurs once
abbrev Once : List ℕ → Type 0
Once xs = (k : ℕ) → is_among xs k ≡ true → count xs k ≡ 1

-- the first doesn't stand again
first_once : (x : ℕ) (xs : List ℕ) → Once (x ∷ xs) → is_among xs x ≡ false
first_once x xs once =
    let one = once x (ap (λ b. b || is_among xs x) (eq-eqb x x refl)) in
    let it = count-it xs x x (eq-eqb x x refl) in
    let none : count xs x ≡ 0 = omega (arith, one, it) in
    not_true (is_among xs x) (sym (count-none xs x) ∙ eq-eqb (count xs x) 0 none)

rest_once : (x : ℕ) (xs : List ℕ) → Once (x ∷ xs) → Once xs
rest_once x xs once k there =
    (elim (k == x) as (λ b. (k == x) ≡ b → count xs k ≡ 1) [
      | true ↦ λ e. absurd (let no : true ≡ false = sym there ∙ ap (is_among xs) (eqb-true k x e) ∙ first_once x xs once in cc)
      | false ↦ λ e. sym (count-other xs x k e) ∙ once k (among-more xs x k there)
    ]) refl

picked_all : (numbers : List ℕ) → Rises numbers → (xs : List ℕ) → Once xs
    → ((k : ℕ) → is_among xs k ≡ true → is_among numbers k ≡ true) → SameRows xs (filter (is_among xs) numbers)
picked_all numbers rise [] once each = subst (SameRows []) (sym (none_picked numbers)) (same-refl [])
picked_all numbers rise (x ∷ xs) once each =
    same-trans (x ∷ xs) (x ∷ filter (is_among xs) numbers) (filter (is_among (x ∷ xs)) numbers)
    (same-cons x xs (filter (is_among xs) numbers) (picked_all numbers rise xs (rest_once x xs once) (λ k e. each k (among-more xs x k e))))
    (picked x (is_among xs) (first_once x xs once) numbers rise (each x (ap (λ b. b || is_among xs x) (eq-eqb x x refl))))

between : (n x : ℕ) → (1 ≤ x) × (x ≤ n) → (nat_le 1 x && nat_lt x (1 + n)) ≡ true
between n x h = let low = h.0 in let high = h.1 in grind (arith, nat_tests, low, high)

-- Ids of fixed objects that occur once each are the listed objects, up to order.
pub same_listed : (t : Topology) (ids : List ℕ) → list_all (λ x. count ids x == 1) ids ≡ true
    → ((x : ℕ) → is_among ids x ≡ true → (1 ≤ x) × (x ≤ object_count t)) → SameRows ids (listed_objects t ids)
same_listed t ids once each =
    picked_all (numbers_from 1 (object_count t)) (numbers_rise 1 (object_count t)) ids
    (λ k e. eqb-true (count ids k) 1 (all_among (λ x. count ids x == 1) k ids once e))
    (λ k e. is_among-numbers_from 1 (object_count t) k ∙ between (object_count t) k (each k e))

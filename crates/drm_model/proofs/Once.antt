-- Numbers that are once each in two lists, one after the other.
use Rattle.std.proofs.Common.{◌≡◌, ℕ, zero, suc, ◌+◌, ◌<◌, ◌≤◌, ◌==◌, Bool, true, false, cond, not, ◌||◌, List, [], ◌∷◌, ◌++◌, filter, length, refl, sym, ap, ◌∙◌, arith, eq-eqb}
use Rattle.std.specs.List.{list_all}
use Rattle.std.proofs.lemmas.Bool.{false≢true, eqb-true, and_from}
use Rattle.std.proofs.lemmas.Bool.Decides.{nat_tests}
use Rattle.drm_index_array.specs.Numbers.{is_among, count}
use Rattle.drm_index_array.proofs.Numbers.{among-append, among-more, among-first, all_among, count-none, count-absent, count-append}
use Rattle.drm_modes.specs.Numbers.{numbers_from}
use Rattle.drm_modes.specs.LeaseRules.{stands_once}

-- what is so of each number that exists, passes in all
each_there : (p : ℕ → Bool) (xs : List ℕ) → ((x : ℕ) → is_among xs x ≡ true → p x ≡ true) → list_all p xs ≡ true
each_there p [] h = refl
each_there p (x ∷ xs) h =
    and_from (p x) (list_all p xs) (h x (among-first xs x)) (each_there p xs (λ y e. h y (among-more xs x y e)))

-- A number that a filter leaves passes the test and was in the list.
pub passes_and_was : (p : ℕ → Bool) (xs : List ℕ) (k : ℕ) → is_among (filter p xs) k ≡ true
    → (p k ≡ true) × (is_among xs k ≡ true)
passes_and_was p [] k h = absurd (false≢true h)
passes_and_was p (x ∷ xs) k h =
    (elim (p x) as (λ b. p x ≡ b → is_among (cond b (x ∷ filter p xs) (filter p xs)) k ≡ true → (p k ≡ true) × (is_among (x ∷ xs) k ≡ true)) [
      | true ↦ λ it e.
          (elim (x == k) as (λ b. (x == k) ≡ b → (b || is_among (filter p xs) k) ≡ true → (p k ≡ true) × ((b || is_among xs k) ≡ true)) [
            | true ↦ λ same j. (ap p (sym (eqb-true x k same)) ∙ it, refl)
            | false ↦ λ other j. passes_and_was p xs k j
          ]) refl e
      | false ↦ λ it e. let was = passes_and_was p xs k e in (was.0, among-more xs x k was.1)
    ]) refl h

-- ---- at most once

abbrev AtMostOnce : List ℕ → Type 0
AtMostOnce xs = (k : ℕ) → count xs k ≤ 1

one_more : (b : Bool) (n : ℕ) (xs : List ℕ) (k : ℕ)
    → length (filter (λ x. x == k) (cond b (n ∷ xs) xs)) ≤ length (filter (λ x. x == k) (n ∷ xs))
one_more true n xs k = omega arith
one_more false n xs k = elim (n == k) as (λ b. length (filter (λ x. x == k) xs) ≤ length (cond b (n ∷ filter (λ x. x == k) xs) (filter (λ x. x == k) xs))) [ true ↦ omega arith | false ↦ omega arith ]

count-filtered : (p : ℕ → Bool) (xs : List ℕ) (k : ℕ) → count (filter p xs) k ≤ count xs k
count-filtered p [] k = omega arith
count-filtered p (x ∷ xs) k =
    let rest = count-filtered p xs k in
    elim (p x) as (λ b. count (cond b (x ∷ filter p xs) (filter p xs)) k ≤ count (x ∷ xs) k) [
      | true ↦ elim (x == k) as (λ b. length (cond b (x ∷ filter (λ y. y == k) (filter p xs)) (filter (λ y. y == k) (filter p xs))) ≤ length (cond b (x ∷ filter (λ y. y == k) xs) (filter (λ y. y == k) xs))) [ true ↦ omega (arith, rest) | false ↦ omega (arith, rest) ]
      | false ↦ let more = one_more false x xs k in omega (arith, rest, more)
    ]

once_filtered : (p : ℕ → Bool) (xs : List ℕ) → AtMostOnce xs → AtMostOnce (filter p xs)
once_filtered p xs h = λ k. let fewer = count-filtered p xs k in let few = h k in omega (arith, fewer, few)

none_below : (first n k : ℕ) → k < first → count (numbers_from first n) k ≡ 0
unfolding numbers_from
none_below first zero k h = refl
none_below first (suc n) k h =
    let other : (first == k) ≡ false = grind (arith, nat_tests) in
    ap
    (λ b. length (cond b (first ∷ filter (λ x. x == k) (numbers_from (first + 1) n)) (filter (λ x. x == k) (numbers_from (first + 1) n))))
    other
    ∙ none_below (first + 1) n k (omega (arith, h))

once_from : (first n : ℕ) → AtMostOnce (numbers_from first n)
unfolding numbers_from
once_from first zero = λ k. omega arith
once_from first (suc n) = λ k.
    elim (first == k) as (λ b. (first == k) ≡ b → length (cond b (first ∷ filter (λ x. x == k) (numbers_from (first + 1) n)) (filter (λ x. x == k) (numbers_from (first + 1) n))) ≤ 1) [
      | true ↦ λ e. let none = none_below (first + 1) n k (let same = eqb-true first k e in omega (arith, same)) in omega (arith, none)
      | false ↦ λ e. once_from (first + 1) n k
    ] refl

-- Numbers that two filters leave of consecutive numbers occur once each.
pub picked_once : (p q : ℕ → Bool) (first n : ℕ) → AtMostOnce (filter p (filter q (numbers_from first n)))
picked_once p q first n =
    once_filtered p (filter q (numbers_from first n)) (once_filtered q (numbers_from first n) (once_from first n))

there_once : (xs : List ℕ) (k : ℕ) → count xs k ≤ 1 → is_among xs k ≡ true → count xs k ≡ 1
there_once xs k few there = let some : (count xs k == 0) ≡ false = count-none xs k ∙ ap not there in grind (arith, nat_tests)

-- ---- two lists

-- Numbers that occur once in each of two lists, and never in both, occur once in the two together.
pub each_once : (xs ys : List ℕ) → list_all (stands_once xs) xs ≡ true → AtMostOnce ys
    → ((k : ℕ) → is_among xs k ≡ true → is_among ys k ≡ false) → list_all (stands_once (xs ++ ys)) (xs ++ ys) ≡ true
each_once xs ys first second apart = each_there (stands_once (xs ++ ys)) (xs ++ ys) (λ k there.
    elim (is_among xs k) as (λ b. is_among xs k ≡ b → (b || is_among ys k) ≡ true → stands_once (xs ++ ys) k ≡ true) [
      | true ↦ λ e j.
          let one = eqb-true (count xs k) 1 (all_among (stands_once xs) k xs first e) in
          let none = count-absent ys k (apart k e) in
          let all = count-append xs ys k in
          eq-eqb (count (xs ++ ys) k) 1 (omega (arith, one, none, all))
      | false ↦ λ e j.
          let none = count-absent xs k e in
          let one = there_once ys k (second k) j in
          let all = count-append xs ys k in
          eq-eqb (count (xs ++ ys) k) 1 (omega (arith, one, none, all))
    ] refl (sym (among-append xs ys k) ∙ there))

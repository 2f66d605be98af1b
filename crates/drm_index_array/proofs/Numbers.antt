-- Numbers in lists, and how often.
use Rattle.std.proofs.Common.{◌≡◌, ℕ, suc, ◌+◌, ◌<◌, ◌≤◌, ◌==◌, Bool, true, false, cond, not, ◌||◌, List, [], ◌∷◌, ◌++◌, map, filter, length, refl, sym, ap, ◌∙◌, arith, eq-eqb}
use Rattle.std.specs.List.{list_any, list_all, AllByRecursion, IsDistinct}
use Rattle.std.proofs.lemmas.Bool.{eqb-true, and_parts, or_left, or_right, not-true}
use Rattle.std.proofs.lemmas.Bool.Decides.{nat_tests}
use Rattle.std.proofs.lemmas.List.Folds.{list_any-append}
use Rattle.std.proofs.lemmas.Map.Keys.{IsDistinct-cons}
use Rattle.std.proofs.lemmas.Map.Steps.{length-le_from_distinct_below}
use Rattle.drm_index_array.specs.Numbers.{is_among, count}
use Rattle.drm_index_array.proofs.Lists.{length-filter_append, list_any_agree}

-- ---- two numbers

-- If n is not k, k is not n.
pub flipped : (n k : ℕ) → (n == k) ≡ false → (k == n) ≡ false
flipped n k h = grind (arith, nat_tests)

-- A lower number differs from the higher one.
pub less-differ : (a b : ℕ) → a < b → (a == b) ≡ false
less-differ a b h = grind (arith, nat_tests)

-- If m is k and n is not, m is not n.
pub other_number : (m n k : ℕ) → (m == k) ≡ true → (n == k) ≡ false → (m == n) ≡ false
other_number m n k h e = grind (arith, nat_tests)

-- The test of equality of two numbers is symmetric.
pub same_either : (m n : ℕ) → (m == n) ≡ (n == m)
same_either m n = grind (arith, nat_tests)

-- ---- a number among others

-- A number in a list stays in it if another one is put first.
pub among-more : (numbers : List ℕ) (k n : ℕ) → is_among numbers n ≡ true → is_among (k ∷ numbers) n ≡ true
among-more numbers k n h = or_right (k == n) (is_among numbers n) h

-- The first number of a list is in it.
pub among-first : (numbers : List ℕ) (k : ℕ) → is_among (k ∷ numbers) k ≡ true
among-first numbers k = or_left (k == k) (is_among numbers k) (eq-eqb k k refl)

-- A number is in two lists together if and only if it is in one of them.
pub among-append : (xs ys : List ℕ) (n : ℕ) → is_among (xs ++ ys) n ≡ (is_among xs n || is_among ys n)
among-append xs ys n = list_any-append (λ x. x == n) xs ys

-- A number in the first list is in both together.
pub among-left : (xs ys : List ℕ) (n : ℕ) → is_among xs n ≡ true → is_among (xs ++ ys) n ≡ true
among-left xs ys n h = among-append xs ys n ∙ or_left (is_among xs n) (is_among ys n) h

-- A number in the second list is in both together.
pub among-right : (xs ys : List ℕ) (n : ℕ) → is_among ys n ≡ true → is_among (xs ++ ys) n ≡ true
among-right xs ys n h = among-append xs ys n ∙ or_right (is_among xs n) (is_among ys n) h

-- A number in fewer numbers and others is in more numbers and the same others.
pub fewer_among : (fewer numbers others : List ℕ) (n : ℕ) → (is_among fewer n ≡ true → is_among numbers n ≡ true)
    → is_among (fewer ++ others) n ≡ true → is_among (numbers ++ others) n ≡ true
fewer_among fewer numbers others n f h =
    among-append numbers others n
    ∙ elim (is_among fewer n) as (λ b. (b ≡ true → is_among numbers n ≡ true) → (b || is_among others n) ≡ true → (is_among numbers n || is_among others n) ≡ true)
    [ true ↦ λ g e. or_left (is_among numbers n) (is_among others n) (g refl) | false ↦ λ g e. or_right (is_among numbers n) (is_among others n) e ]
    f (sym (among-append fewer others n) ∙ h)

-- A number in the list differs from one that is not in it.
pub among-differs : (numbers : List ℕ) (k n : ℕ) → is_among numbers k ≡ false → is_among numbers n ≡ true
    → (n == k) ≡ false
among-differs numbers k n h e =
    elim (n == k) as (λ b. (n == k) ≡ b → b ≡ false) [ true ↦ λ is. absurd (let j : false ≡ true = sym h ∙ ap (is_among numbers) (sym (eqb-true n k is)) ∙ e in cc) | false ↦ λ is. refl ] refl

-- ---- how often

none-suc : (n : ℕ) → (suc n == 0) ≡ false
none-suc n = grind (arith, nat_tests)

-- The count of a number is 0 if and only if the number is not in the list.
pub count-none : (numbers : List ℕ) (n : ℕ) → (count numbers n == 0) ≡ not (is_among numbers n)
count-none [] n = refl
count-none (k ∷ numbers) n =
    elim (k == n) as (λ b. (length (cond b (k ∷ filter (λ x. x == n) numbers) (filter (λ x. x == n) numbers)) == 0) ≡ not (b || is_among numbers n))
    [ true ↦ none-suc (count numbers n) | false ↦ count-none numbers n ]

-- A number that is not in the list has the count 0.
pub count-absent : (numbers : List ℕ) (n : ℕ) → is_among numbers n ≡ false → count numbers n ≡ 0
count-absent numbers n h = eqb-true (count numbers n) 0 (count-none numbers n ∙ ap not h)

-- Another number in front does not change the count.
pub count-other : (numbers : List ℕ) (k n : ℕ) → (n == k) ≡ false → count (k ∷ numbers) n ≡ count numbers n
count-other numbers k n h =
    ap (λ b. length (cond b (k ∷ filter (λ x. x == n) numbers) (filter (λ x. x == n) numbers))) (flipped n k h)

-- The number itself in front makes the count higher by one.
pub count-it : (numbers : List ℕ) (k n : ℕ) → (n == k) ≡ true → count (k ∷ numbers) n ≡ suc (count numbers n)
count-it numbers k n h =
    ap (λ b. length (cond b (k ∷ filter (λ x. x == n) numbers) (filter (λ x. x == n) numbers)))
    (eq-eqb k n (sym (eqb-true n k h)))

-- The count in two lists together is the sum of both counts.
pub count-append : (xs ys : List ℕ) (n : ℕ) → count (xs ++ ys) n ≡ count xs n + count ys n
count-append xs ys n = length-filter_append (λ x. x == n) xs ys

-- As many elements have a number as the number is among those of the elements.
pub count_of : {X : Type 0} (f : X → ℕ) (n : ℕ) → (xs : List X)
    → length (filter (λ x. f x == n) xs) ≡ count (map f xs) n
count_of f n [] = refl
count_of f n (x ∷ xs) =
    elim (f x == n) as (λ b. length (cond b (x ∷ filter (λ x. f x == n) xs) (filter (λ x. f x == n) xs)) ≡ length (cond b (f x ∷ filter (λ x. x == n) (map f xs)) (filter (λ x. x == n) (map f xs))))
    [ true ↦ ap (λ m. suc m) (count_of f n xs) | false ↦ count_of f n xs ]

-- ---- numbers that are once each

-- a number that isn't there differs from each
absent-differs : (k : ℕ) → (numbers : List ℕ) → is_among numbers k ≡ false
    → AllByRecursion (λ x. (k == x) ≡ false) numbers
absent-differs k [] h = tt
absent-differs k (x ∷ xs) h =
    elim (x == k) as (λ b. (x == k) ≡ b → (b || is_among xs k) ≡ false → AllByRecursion (λ y. (k == y) ≡ false) (x ∷ xs))
    [ true ↦ λ e j. absurd (let no : true ≡ false = j in cc) | false ↦ λ e j. (flipped x k e, absent-differs k xs j) ]
    refl h

-- If all numbers of a list pass a test, each one in it does.
pub all_among : (p : ℕ → Bool) (k : ℕ) → (numbers : List ℕ) → list_all p numbers ≡ true → is_among numbers k ≡ true
    → p k ≡ true
all_among p k [] h e = absurd (let no : false ≡ true = e in cc)
all_among p k (x ∷ xs) h e =
    elim (x == k) as (λ b. (x == k) ≡ b → (b || is_among xs k) ≡ true → p k ≡ true) [
      | true ↦ λ is j. ap p (sym (eqb-true x k is)) ∙ (and_parts (p x) (list_all p xs) h).0
      | false ↦ λ is j. all_among p k xs (and_parts (p x) (list_all p xs) h).1 j
    ] refl e

count-more : (numbers : List ℕ) (x k : ℕ) → count numbers k ≤ count (x ∷ numbers) k
count-more numbers x k =
    let all = count numbers k in
    elim (x == k) as (λ b. all ≤ length (cond b (x ∷ filter (λ y. y == k) numbers) (filter (λ y. y == k) numbers)))
    [ true ↦ omega arith | false ↦ omega arith ]

none-absent : (numbers : List ℕ) (k : ℕ) → count numbers k ≡ 0 → is_among numbers k ≡ false
none-absent numbers k h = not-true (is_among numbers k) (sym (count-none numbers k) ∙ eq-eqb (count numbers k) 0 h)

once-distinct : (numbers : List ℕ) → ((k : ℕ) → count numbers k ≤ 1) → IsDistinct ◌==◌ numbers
unfolding IsDistinct
once-distinct [] h = tt
once-distinct (x ∷ xs) h =
    let one = h x in
    let it = count-it xs x x (eq-eqb x x refl) in
    (absent-differs x xs (none-absent xs x (omega (arith, one, it))), once-distinct xs (λ k. let more = count-more xs x k in let few = h k in omega (arith, more, few)))

at_most_once : (numbers : List ℕ) → list_all (λ x. count numbers x == 1) numbers ≡ true → (k : ℕ) → count numbers k ≤ 1
at_most_once numbers h k =
    elim (is_among numbers k) as (λ b. is_among numbers k ≡ b → count numbers k ≤ 1) [
      | true ↦ λ e. let one = eqb-true (count numbers k) 1 (all_among (λ x. count numbers x == 1) k numbers h e) in omega (arith, one)
      | false ↦ λ e. let none = count-absent numbers k e in omega (arith, none)
    ] refl

-- Numbers from 1 to n that occur once each are at most n.
pub few_once : (n : ℕ) (numbers : List ℕ) → list_all (λ x. count numbers x == 1) numbers ≡ true
    → ((k : ℕ) → is_among numbers k ≡ true → (1 ≤ k) × (k ≤ n)) → length numbers ≤ n
few_once n numbers h each =
    let few =
    length-le_from_distinct_below (0 ∷ numbers) (n + 1)
    (IsDistinct-cons ◌==◌ 0 numbers (absent-differs 0 numbers no_zero) (once-distinct numbers (at_most_once numbers h)))
    below in
    omega (arith, few)
  where
    no_zero : is_among numbers 0 ≡ false
    no_zero = elim (is_among numbers 0) as (λ b. is_among numbers 0 ≡ b → b ≡ false) [ true ↦ λ e. let low = (each 0 e).0 in absurd (omega (arith, low)) | false ↦ λ e. refl ] refl

    of_rest : (q : ℕ) → is_among numbers q ≡ true → q < n + 1
    of_rest q e = let high = (each q e).1 in omega (arith, high)

    below : (q : ℕ) → list_any (λ x. q == x) (0 ∷ numbers) ≡ true → q < n + 1
    below q e =
        elim (q == 0) as (λ b. (q == 0) ≡ b → (b || list_any (λ x. q == x) numbers) ≡ true → q < n + 1) [
          | true ↦ λ is j. let zero = eqb-true q 0 is in omega (arith, zero)
          | false ↦ λ is j. of_rest q (list_any_agree (λ x. x == q) (λ x. q == x) (λ x. same_either x q) numbers ∙ j)
        ] refl e

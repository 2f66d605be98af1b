-- What `least` and `least_of` find, and how to show what they find.
use Rattle.std.proofs.Common.{◌≡◌, ℕ, zero, suc, ◌+◌, ◌-◌, ◌<◌, ◌≤◌, ◌↔◌, ◌||◌, ◌==◌, nat_le, Bool, true, false, if◌then◌else◌, List, [], ◌∷◌, Option, Some, None, MatchOption, refl, sym, ap, ◌∙◌, inl, inr, arith}
use Rattle.std.specs.List.{list_any}
use Rattle.std.proofs.lemmas.Bool.{cases_eq, cases_lt, false≢true}
use Rattle.std.proofs.lemmas.Bool.Decides.{nat_tests}
use Rattle.std.proofs.lemmas.Option.{MatchOption-at_some, MatchOption-at_none}
use Rattle.drm_index_array.specs.Least.{first_passing, least, IsLeast, NonePasses, lesser, least_of, IsLeastOf}

-- what the first of this many numbers from `from` on is
record IsFirst (p : ℕ → Bool) (from count n : ℕ) : Type 0 where
  at_least : from ≤ n
  below : n < from + count
  passes : p n ≡ true
  none_below : (k : ℕ) → from ≤ k → k < n → p k ≡ false

abbrev Found : (ℕ → Bool) → ℕ → ℕ → Option ℕ → Type 0
Found p from count r = MatchOption r ((k : ℕ) → from ≤ k → k < from + count → p k ≡ false) (IsFirst p from count)

-- a number is the first of a range, or after it
first_or_after : (p : ℕ → Bool) (from : ℕ) → p from ≡ false → (q : ℕ → Type 0)
    → ((k : ℕ) → from + 1 ≤ k → q k → p k ≡ false) → (k : ℕ) → from ≤ k → q k → p k ≡ false
first_or_after p from fails q after k le h =
    elim (cases_lt from k) [
      | inl above ↦ after k (omega arith) h
      | inr here ↦ let same : k ≡ from = omega arith in rw same fails
    ]

found_later : (p : ℕ → Bool) (from count : ℕ) (r : Option ℕ) → p from ≡ false → Found p (from + 1) count r
    → Found p from (suc count) r
found_later p from count None fails none =
    first_or_after p from fails (λ k. k < from + suc count) (λ k le lt. none k le (omega arith))
found_later p from count (Some n) fails is = record {
  at_least = omega (arith, is.at_least);
  below = omega (arith, is.below);
  passes = is.passes;
  none_below = first_or_after p from fails (λ k. k < n) is.none_below;
}

first_passing_found : (p : ℕ → Bool) (from count : ℕ) → Found p from count (first_passing p from count)
unfolding first_passing
first_passing_found p from zero = λ k le lt. absurd (omega arith)
first_passing_found p from (suc count) =
    elim (p from) as (λ b. p from ≡ b → Found p from (suc count) (elim b [ true ↦ Some from | false ↦ first_passing p (from + 1) count ])) [
      | true ↦ λ here. record { at_least = omega arith; below = omega arith; passes = here; none_below = λ k le lt. absurd (omega arith) }
      | false ↦ λ here. found_later p from count _ here (first_passing_found p (from + 1) count)
    ] refl

-- `least` finds nothing and no number of the range passes, or it finds the lowest that does.
pub least_cases : (p : ℕ → Bool) (from to : ℕ)
    → MatchOption (least p from to) (NonePasses p from to) (IsLeast p from to)
unfolding least
least_cases p from to =
    elim (first_passing p from (to + 1 - from)) as (λ r. Found p from (to + 1 - from) r → MatchOption r (NonePasses p from to) (IsLeast p from to)) [
      | None ↦ λ none k ge le. none k ge (omega arith)
      | Some n ↦ λ is. record { at_least = is.at_least; at_most = omega (arith, is.at_least, is.below); passes = is.passes; none_below = is.none_below }
    ] (first_passing_found p from (to + 1 - from))

-- The number that `least` finds is the lowest of the range that passes.
pub least_some : (p : ℕ → Bool) (from to n : ℕ) → least p from to ≡ Some n → IsLeast p from to n
least_some p from to n e = MatchOption-at_some _ (IsLeast p from to) n e (least_cases p from to)

-- If `least` finds nothing, no number of the range passes.
pub least_none : (p : ℕ → Bool) (from to : ℕ) → least p from to ≡ None → NonePasses p from to
least_none p from to e = MatchOption-at_none (NonePasses p from to) (IsLeast p from to) e (least_cases p from to)

-- A range has only one lowest number that passes.
pub IsLeast-unique : (p : ℕ → Bool) (from to m n : ℕ) → IsLeast p from to m → IsLeast p from to n → m ≡ n
IsLeast-unique p from to m n a b =
    elim (cases_lt m n) [
      | inl below ↦ absurd (false≢true (sym (b.none_below m a.at_least below) ∙ a.passes))
      | inr above ↦ elim (cases_lt n m) [
        | inl below ↦ absurd (false≢true (sym (a.none_below n b.at_least below) ∙ b.passes))
        | inr same ↦ omega arith
      ]
    ]

-- If n is the lowest number of the range that passes, `least` finds n.
pub least_is : (p : ℕ → Bool) (from to n : ℕ) → IsLeast p from to n → least p from to ≡ Some n
least_is p from to n is =
    elim (least p from to) as (λ r. MatchOption r (NonePasses p from to) (IsLeast p from to) → r ≡ Some n) [
      | None ↦ λ none. absurd (false≢true (sym (none n is.at_least is.at_most) ∙ is.passes))
      | Some m ↦ λ found. ap Some (IsLeast-unique p from to m n found is)
    ] (least_cases p from to)

-- If no number of the range passes, `least` finds nothing.
pub least_is_none : (p : ℕ → Bool) (from to : ℕ) → NonePasses p from to → least p from to ≡ None
least_is_none p from to none =
    elim (least p from to) as (λ r. MatchOption r (NonePasses p from to) (IsLeast p from to) → r ≡ None) [
      | None ↦ λ _. refl
      | Some m ↦ λ found. absurd (false≢true (sym (none m found.at_least found.at_most) ∙ found.passes))
    ] (least_cases p from to)

-- A result that is the lowest passing number, or `None` if none passes, is what `least` finds.
pub least_by_cases : (p : ℕ → Bool) (from to : ℕ) (r : Option ℕ)
    → MatchOption r (NonePasses p from to) (IsLeast p from to) → r ≡ least p from to
least_by_cases p from to None none = sym (least_is_none p from to none)
least_by_cases p from to (Some n) is = sym (least_is p from to n is)

-- Two tests that agree on the range find the same number.
pub least-same : (p q : ℕ → Bool) (from to : ℕ) → ((k : ℕ) → from ≤ k → k ≤ to → p k ≡ q k)
    → least p from to ≡ least q from to
least-same p q from to same = least_by_cases q from to _ (elim (least p from to) as (λ r. MatchOption r (NonePasses p from to) (IsLeast p from to) → MatchOption r (NonePasses q from to) (IsLeast q from to)) [
  | None ↦ λ none k ge le. sym (same k ge le) ∙ none k ge le
  | Some n ↦ λ is. record {
    at_least = is.at_least;
    at_most = is.at_most;
    passes = sym (same n is.at_least is.at_most) ∙ is.passes;
    none_below = λ k ge lt. sym (same k ge (omega (arith, is.at_most))) ∙ is.none_below k ge lt;
  }
] (least_cases p from to))

-- the least of a list

abbrev among : List ℕ → ℕ → Bool
among ns k = list_any (λ x. x == k) ns

here : (n : ℕ) (rest : Bool) → ((n == n) || rest) ≡ true
here n rest = grind (arith, nat_tests)

there : (n k : ℕ) (rest : Bool) → rest ≡ true → ((n == k) || rest) ≡ true
there n k rest is = grind (arith, nat_tests, is)

-- a number of a list is the first, or among the others
here_or_there : (n k : ℕ) (P : Type 0) (rest : Bool) → (n ≡ k → P) → (rest ≡ true → P) → ((n == k) || rest) ≡ true → P
here_or_there n k P rest first other is =
    elim (cases_eq n k) [ inl same ↦ first same | inr apart ↦ other (grind (arith, nat_tests, is, apart)) ]

least_of_first : (n : ℕ) (ns : List ℕ) → ns ≡ [] → IsLeastOf (n ∷ ns) n
least_of_first n ns none = record {
  among = here n (among ns n);
  at_most =
      λ k is. here_or_there n k (n ≤ k) (among ns k) (λ same. omega (arith, same))
      (λ later. absurd (false≢true (sym (ap (λ l. among l k) none) ∙ later))) is;
}

least_of_lesser : (n m : ℕ) (ns : List ℕ) → IsLeastOf ns m → (b : Bool) → nat_le n m ≡ b
    → IsLeastOf (n ∷ ns) (if b then n else m)
least_of_lesser n m ns is true le = record {
  among = here n (among ns n);
  at_most =
      λ k among_it. here_or_there n k (n ≤ k) (among ns k) (λ same. omega (arith, same))
      (λ later. grind (arith, nat_tests, le, is.at_most k later)) among_it;
}
least_of_lesser n m ns is false le = record {
  among = there n m (among ns m) is.among;
  at_most =
      λ k among_it. here_or_there n k (m ≤ k) (among ns k) (λ same. grind (arith, nat_tests, le, same)) (is.at_most k)
      among_it;
}

-- `least_of` finds nothing and the list is empty, or it finds the lowest number of the list.
pub least_of_cases : (ns : List ℕ) → MatchOption (least_of ns) (ns ≡ []) (IsLeastOf ns)
least_of_cases [] = refl
least_of_cases (n ∷ ns) = first (least_of ns) (least_of_cases ns)
  where
    first : (r : Option ℕ) → MatchOption r (ns ≡ []) (IsLeastOf ns) → IsLeastOf (n ∷ ns) (lesser n r)
    first None none = least_of_first n ns none
    first (Some m) is = least_of_lesser n m ns is (nat_le n m) refl

-- The number that `least_of` finds is in the list and at most each number of it.
pub least_of_some : (ns : List ℕ) (n : ℕ) → least_of ns ≡ Some n → IsLeastOf ns n
least_of_some ns n e = MatchOption-at_some _ (IsLeastOf ns) n e (least_of_cases ns)

-- `least_of` finds nothing if and only if the list is empty.
pub least_of_none : (ns : List ℕ) → (least_of ns ≡ None) ↔ (ns ≡ [])
least_of_none ns = ((λ e. MatchOption-at_none (ns ≡ []) (IsLeastOf ns) e (least_of_cases ns)), ap least_of)

-- A list has only one lowest number.
pub IsLeastOf-unique : (ns : List ℕ) (m n : ℕ) → IsLeastOf ns m → IsLeastOf ns n → m ≡ n
IsLeastOf-unique ns m n a b = omega (arith, a.at_most n b.among, b.at_most m a.among)

-- If n is the lowest number of the list, `least_of` finds n.
pub least_of_is : (ns : List ℕ) (n : ℕ) → IsLeastOf ns n → least_of ns ≡ Some n
least_of_is ns n is =
    elim (least_of ns) as (λ r. MatchOption r (ns ≡ []) (IsLeastOf ns) → r ≡ Some n) [
      | None ↦ λ none. absurd (false≢true (sym (ap (λ l. among l n) none) ∙ is.among))
      | Some m ↦ λ found. ap Some (IsLeastOf-unique ns m n found is)
    ] (least_of_cases ns)

-- Two lists with the same numbers have the same lowest one.
pub least_of-same : (xs ys : List ℕ) → ((n : ℕ) → list_any (λ x. x == n) xs ≡ list_any (λ x. x == n) ys)
    → least_of xs ≡ least_of ys
least_of-same xs ys same =
    elim (least_of xs) as (λ r. MatchOption r (xs ≡ []) (IsLeastOf xs) → r ≡ least_of ys) [
      | None ↦ λ none. sym ((least_of_none ys).1 (no_member ys (λ n. sym (same n) ∙ ap (λ l. among l n) none)))
      | Some n ↦ λ is. sym (least_of_is ys n (record { among = sym (same n) ∙ is.among; at_most = λ k later. is.at_most k (same k ∙ later) }))
    ] (least_of_cases xs)
  where
    no_member : (ns : List ℕ) → ((n : ℕ) → among ns n ≡ false) → ns ≡ []
    no_member [] none = refl
    no_member (n ∷ ns) none = absurd (false≢true (sym (none n) ∙ here n (among ns n)))

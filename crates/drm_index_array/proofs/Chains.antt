-- Which numbers are in the chain of a number, which one is its top, and how many are above it.
use Rattle.std.proofs.Common.{◌≡◌, ℕ, zero, suc, ◌<◌, ◌≤◌, ◌==◌, Bool, true, false, ◌||◌, ◌⊎◌, inl, inr, List, [], ◌∷◌, ◌+◌, length, drop, Option, None, Some, refl, sym, ap, ◌∙◌, arith}
use Rattle.std.proofs.lemmas.Bool.{eqb-true}
use Rattle.drm_index_array.specs.Numbers.{is_among}
use Rattle.drm_index_array.specs.Chains.{chain_within, chain_of, last_of, top_of, is_under, depth_of}
use Rattle.drm_index_array.proofs.Numbers.{among-first, among-more}
use Rattle.std.proofs.Math.Bool.{or-false}

-- what is above a number is less
abbrev pub IsFalling : (ℕ → Option ℕ) → Type 0
IsFalling above = (n m : ℕ) → above n ≡ Some m → m < n

-- the rest of a chain, by what is above
abbrev rest : ℕ → (ℕ → Option ℕ) → Option ℕ → List ℕ
rest s above o = elim o [ None ↦ [] | Some m ↦ chain_within s above m ]

-- A number is in its own chain.
pub itself : (above : ℕ → Option ℕ) (s n : ℕ) → is_among (chain_within s above n) n ≡ true
unfolding chain_within
itself above zero n = among-first [] n
itself above (suc s) n = among-first (rest s above (above n)) n

only : (n top : ℕ) → (n == top || false) ≡ true → n ≡ top
only n top h =
    (elim (n == top) as (λ b. (n == top) ≡ b → (b || false) ≡ true → n ≡ top) [ true ↦ λ e k. eqb-true n top e | false ↦ λ e k. absurd (let j : false ≡ true = k in cc) ])
    refl h

-- A number in a chain is the first of it or above another that is in it.
pub child : (above : ℕ → Option ℕ) (s top n : ℕ) → is_among (chain_within s above n) top ≡ true
    → (top ≡ n) ⊎ ((y : ℕ) × (above y ≡ Some top) × (is_among (chain_within s above n) y ≡ true))
unfolding chain_within
child above zero top n h = inl (sym (only n top h))
child above (suc s) top n h =
    (elim (n == top) as (λ b. (n == top) ≡ b → (b || is_among (rest s above (above n)) top) ≡ true → (top ≡ n) ⊎ ((y : ℕ) × (above y ≡ Some top) × (is_among (n ∷ rest s above (above n)) y ≡ true))) [
      | true ↦ λ e k. inl (sym (eqb-true n top e))
      | false ↦ λ e k. higher (λ m. child above s top m) (above n) refl k
    ]) refl h
  where
    of_rest : (m : ℕ) → above n ≡ Some m
        → (top ≡ m) ⊎ ((y : ℕ) × (above y ≡ Some top) × (is_among (chain_within s above m) y ≡ true))
        → (top ≡ n) ⊎ ((y : ℕ) × (above y ≡ Some top) × (is_among (n ∷ chain_within s above m) y ≡ true))
    of_rest m e (inl same) = inr (n, e ∙ ap Some (sym same), among-first (chain_within s above m) n)
    of_rest m e (inr found) = inr (found.0, found.1, among-more (chain_within s above m) n found.0 found.2)

    higher : ((m : ℕ) → is_among (chain_within s above m) top ≡ true → (top ≡ m) ⊎ ((y : ℕ) × (above y ≡ Some top) × (is_among (chain_within s above m) y ≡ true)))
        → (o : Option ℕ) → above n ≡ o → is_among (rest s above o) top ≡ true
        → (top ≡ n) ⊎ ((y : ℕ) × (above y ≡ Some top) × (is_among (n ∷ rest s above o) y ≡ true))
    higher from None e k = absurd (let j : false ≡ true = k in cc)
    higher from (Some m) e k = of_rest m e (from m k)

-- With each number, a chain contains the one above it.
pub above_too : (above : ℕ → Option ℕ) → IsFalling above → (s y n top : ℕ) → n ≤ s → above y ≡ Some top
    → is_among (chain_within s above n) y ≡ true → is_among (chain_within s above n) top ≡ true
unfolding chain_within
above_too above falls zero y n top few e h =
    let is = only n y h in
    let lt = falls y top e in
    absurd (omega (arith, is, lt, few))
above_too above falls (suc s) y n top few e h =
    (elim (n == y) as (λ b. (n == y) ≡ b → (b || is_among (rest s above (above n)) y) ≡ true → is_among (n ∷ rest s above (above n)) top ≡ true) [
      | true ↦ λ is k. here (ap above (eqb-true n y is) ∙ e)
      | false ↦ λ is k. higher (λ m lt j. above_too above falls s y m top lt e j) (above n) refl k
    ]) refl h
  where
    here : above n ≡ Some top → is_among (n ∷ rest s above (above n)) top ≡ true
    here is =
        ap (λ o. is_among (n ∷ rest s above o) top) is
        ∙ among-more (chain_within s above top) n top (itself above s top)

    higher : ((m : ℕ) → m ≤ s → is_among (chain_within s above m) y ≡ true → is_among (chain_within s above m) top ≡ true)
        → (o : Option ℕ) → above n ≡ o → is_among (rest s above o) y ≡ true → is_among (n ∷ rest s above o) top ≡ true
    higher from None is k = absurd (let j : false ≡ true = k in cc)
    higher from (Some m) is k = let lt = falls n m is in among-more (chain_within s above m) n top (from m (omega (arith, lt, few)) k)

-- a number above which nothing is less is alone in its chain
alone : (above : ℕ → Option ℕ) → IsFalling above → (s n : ℕ) → n ≤ 0 → (o : Option ℕ) → above n ≡ o
    → n ∷ [] ≡ n ∷ rest s above o
alone above falls s n low None e = refl
alone above falls s n low (Some m) e = let lt = falls n m e in absurd (omega (arith, lt, low))

-- Once the steps are at least the number, more steps do not change the chain.
pub enough : (above : ℕ → Option ℕ) → IsFalling above → (s t n : ℕ) → n ≤ s → n ≤ t
    → chain_within s above n ≡ chain_within t above n
unfolding chain_within
enough above falls zero zero n h k = refl
enough above falls zero (suc t) n h k = alone above falls t n h (above n) refl
enough above falls (suc s) zero n h k = sym (alone above falls s n k (above n) refl)
enough above falls (suc s) (suc t) n h k = higher (λ m i j. enough above falls s t m i j) (above n) refl
  where
    higher : ((m : ℕ) → m ≤ s → m ≤ t → chain_within s above m ≡ chain_within t above m) → (o : Option ℕ) → above n ≡ o
        → n ∷ rest s above o ≡ n ∷ rest t above o
    higher from None e = refl
    higher from (Some m) e = let lt = falls n m e in ap (λ l. n ∷ l) (from m (omega (arith, lt, h)) (omega (arith, lt, k)))

-- If what is above each number of a chain stays the same, the chain does.
pub same_chain : (P : ℕ → Type 0) (above other : ℕ → Option ℕ) → ((n : ℕ) → P n → other n ≡ above n)
    → ((n m : ℕ) → P n → above n ≡ Some m → P m) → (s n : ℕ) → P n → chain_within s other n ≡ chain_within s above n
unfolding chain_within
same_chain P above other is higher zero n p = refl
same_chain P above other is higher (suc s) n p =
    ap (λ o. n ∷ rest s other o) (is n p) ∙ later (λ m q. same_chain P above other is higher s m q) (above n) refl
  where
    later : ((m : ℕ) → P m → chain_within s other m ≡ chain_within s above m) → (o : Option ℕ) → above n ≡ o
        → n ∷ rest s other o ≡ n ∷ rest s above o
    later from None e = refl
    later from (Some m) e = ap (λ l. n ∷ l) (from m (higher n m p e))

last_of_chain : (above : ℕ → Option ℕ) (s a b m : ℕ)
    → last_of a (chain_within s above m) ≡ last_of b (chain_within s above m)
unfolding chain_within
last_of_chain above zero a b m = refl
last_of_chain above (suc s) a b m = refl

-- A number with nothing above it is its own top.
pub top_none : (above : ℕ → Option ℕ) (n : ℕ) → above n ≡ None → n ≡ top_of above n
unfolding chain_within
top_none above zero e = refl
top_none above (suc n) e = ap (λ o. last_of (suc n) (rest n above o)) (sym e)

-- A number has the same top as the number above it.
pub top_some : (above : ℕ → Option ℕ) → IsFalling above → (n m : ℕ) → above n ≡ Some m → top_of above m ≡ top_of above n
unfolding chain_within
top_some above falls zero m e = let lt = falls 0 m e in absurd (omega (arith, lt))
top_some above falls (suc n) m e =
    let lt = falls (suc n) m e in
    last_of_chain above m m (suc n) m
    ∙ ap (last_of (suc n)) (enough above falls m n m (omega arith) (omega (arith, lt)))
    ∙ ap (λ o. last_of (suc n) (rest n above o)) (sym e)

-- A number with nothing above it is under itself only.
pub under_none : (above : ℕ → Option ℕ) (top n : ℕ) → above n ≡ None → is_under above top n ≡ (n == top)
unfolding chain_within
under_none above top zero e = or-false (0 == top)
under_none above top (suc n) e = ap (λ o. (suc n == top) || is_among (rest n above o) top) e ∙ or-false (suc n == top)

-- A number is under itself and under all that the number above it is under.
pub under_some : (above : ℕ → Option ℕ) → IsFalling above → (top n m : ℕ) → above n ≡ Some m
    → is_under above top n ≡ (n == top || is_under above top m)
unfolding chain_within
under_some above falls top zero m e = let lt = falls 0 m e in absurd (omega (arith, lt))
under_some above falls top (suc n) m e =
    let lt = falls (suc n) m e in
    ap (λ o. (suc n == top) || is_among (rest n above o) top) e
    ∙ ap (λ l. (suc n == top) || is_among l top) (enough above falls n m m (omega (arith, lt)) (omega arith))

-- A number with nothing above it has the depth 0.
pub depth_none : (above : ℕ → Option ℕ) (n : ℕ) → above n ≡ None → depth_of above n ≡ 0
unfolding chain_within
depth_none above zero e = refl
depth_none above (suc n) e = ap (λ o. length (rest n above o)) e

all_of_chain : (above : ℕ → Option ℕ) (s n : ℕ)
    → length (chain_within s above n) ≡ length (drop 1 (chain_within s above n)) + 1
unfolding chain_within
all_of_chain above zero n = refl
all_of_chain above (suc s) n = let l = length (rest s above (above n)) in omega arith

-- A number has a depth one greater than the number above it.
pub depth_some : (above : ℕ → Option ℕ) → IsFalling above → (n m : ℕ) → above n ≡ Some m
    → depth_of above n ≡ depth_of above m + 1
unfolding chain_within
depth_some above falls zero m e = let lt = falls 0 m e in absurd (omega (arith, lt))
depth_some above falls (suc n) m e =
    let lt = falls (suc n) m e in
    ap (λ o. length (rest n above o)) e ∙ ap length (enough above falls n m m (omega (arith, lt)) (omega arith))
    ∙ all_of_chain above m m

few_in_chain : (above : ℕ → Option ℕ) (s n : ℕ) → length (chain_within s above n) ≤ s + 1
unfolding chain_within
few_in_chain above zero n = omega arith
few_in_chain above (suc s) n = of_rest (λ m. few_in_chain above s m) (above n)
  where
    of_rest : ((m : ℕ) → length (chain_within s above m) ≤ s + 1) → (o : Option ℕ)
        → length (n ∷ rest s above o) ≤ suc s + 1
    of_rest few None = omega arith
    of_rest few (Some m) = let fewer = few m in omega (arith, fewer)

-- The depth of a number is at most the number.
pub depth_low : (above : ℕ → Option ℕ) (n : ℕ) → depth_of above n ≤ n
depth_low above n =
    let all = all_of_chain above n n in
    let few = few_in_chain above n n in
    omega (arith, all, few)

shorter : (above other : ℕ → Option ℕ) → ((n m : ℕ) → other n ≡ Some m → above n ≡ Some m) → (s n : ℕ)
    → length (chain_within s other n) ≤ length (chain_within s above n)
unfolding chain_within
shorter above other f zero n = omega arith
shorter above other f (suc s) n = of_rest (λ m. shorter above other f s m) (other n) refl
  where
    of_rest : ((m : ℕ) → length (chain_within s other m) ≤ length (chain_within s above m)) → (o : Option ℕ)
        → other n ≡ o → length (n ∷ rest s other o) ≤ length (n ∷ rest s above (above n))
    of_rest from None e = let l = length (rest s above (above n)) in omega arith
    of_rest from (Some m) e =
        let fewer = from m in
        let same : length (rest s above (above n)) ≡ length (chain_within s above m) =
        ap (λ o. length (rest s above o)) (f n m e) in
        omega (arith, fewer, same)

-- If no number gets a new one above it, no depth grows.
pub depth_fewer : (above other : ℕ → Option ℕ) → ((n m : ℕ) → other n ≡ Some m → above n ≡ Some m) → (n : ℕ)
    → depth_of other n ≤ depth_of above n
depth_fewer above other f n =
    let fewer = shorter above other f n n in
    let some = all_of_chain other n n in
    let all = all_of_chain above n n in
    omega (arith, fewer, some, all)

-- Rows that a client made, of which the least is taken: tokens and framebuffers.
use Rattle.std.proofs.Common.{◌≡◌, ℕ, ◌<◌, ◌==◌, Bool, true, false, not, cond, List, [], ◌∷◌, map, filter, find, length, Option, Some, None, refl, sym, ◌∙◌, ap, subst, arith, eq-eqb}
use Rattle.std.specs.Prelude.{nat_lt}
use Rattle.std.specs.List.{AllByRecursion}
use Rattle.std.specs.Option.{option_map, option_map_or}
use Rattle.std.proofs.lemmas.Bool.Decides.{nat_tests}
use Rattle.drm_index_array.specs.Rows.{InOrder}
use Rattle.drm_index_array.specs.Orders.{SameRows}
use Rattle.drm_index_array.proofs.FoundInLists.{none_found}
use Rattle.drm_index_array.proofs.Lists.{all_weaker, filter_all}
use Rattle.drm_index_array.proofs.Orders.{same-trans, same-refl, same-cons, same-swap}

-- of rows those that the client did not make
abbrev pub others : {X : Type 0} → (X → ℕ) → ℕ → List X → List X
others client c xs = filter (λ x. not (client x == c)) xs

-- of rows all but the one of a number
abbrev pub except : {X : Type 0} → (X → ℕ) → ℕ → List X → List X
except number n xs = filter (λ x. not (number x == n)) xs

-- what taking a row says: its number, and the key that it names
abbrev pub number_and_key : {X : Type 0} → (X → ℕ) → (X → ℕ) → X → ℕ × ℕ
number_and_key number key x = (number x, key x)

-- what is left of rows when one of the client went, which named this key
pub record IsTaken {X : Type 0} (client key : X → ℕ) (c k : ℕ) (xs left : List X) : Type 0 where
  pub keys : SameRows (map key xs) (k ∷ map key left)
  pub others_stay : others client c left ≡ others client c xs
  pub shorter : length left < length xs

found_one : {X : Type 0} (p : X → Bool) (P : X → Type 0) → (xs : List X) (x : X) → AllByRecursion P xs
    → find p xs ≡ Some x → P x
found_one p P [] x h e = absurd (let n : None ≡ Some x = e in cc)
found_one p P (y ∷ ys) x h e =
    elim (p y) as (λ b. cond b (Some y) (find p ys) ≡ Some x → P x)
    [ true ↦ λ j. subst P (let same : y ≡ x = (let s : Some y ≡ Some x = j in cc) in same) h.0 | false ↦ λ j. found_one p P ys x h.1 j ]
    e

greater : (n m : ℕ) → nat_lt n m ≡ true → (m == n) ≡ false
greater n m h = grind (arith, nat_tests)

less : (n m : ℕ) → nat_lt n m ≡ true → (n == m) ≡ false
less n m h = grind (arith, nat_tests)

module _ {X : Type 0} (number client key : X → ℕ) where
  -- the first row is the client's
  taken_first : (c : ℕ) (x : X) (xs : List X) → (client x == c) ≡ true
      → AllByRecursion (λ y. nat_lt (number x) (number y) ≡ true) xs
      → IsTaken client key c (key x) (x ∷ xs) (except number (number x) (x ∷ xs))
  taken_first c x xs is h =
      let later : except number (number x) xs ≡ xs =
      filter_all (λ y. not (number y == number x)) xs (all_weaker (λ y. nat_lt (number x) (number y) ≡ true) (λ y. not (number y == number x) ≡ true) (λ y e. ap not (greater (number x) (number y) e)) xs h) in
      let left : except number (number x) (x ∷ xs) ≡ xs =
      ap (λ b. cond (not b) (x ∷ except number (number x) xs) (except number (number x) xs))
      (eq-eqb (number x) (number x) refl)
      ∙ later in
      subst (IsTaken client key c (key x) (x ∷ xs)) (sym left) (record {
        keys = same-refl (key x ∷ map key xs);
        others_stay = sym (ap (λ b. cond (not b) (x ∷ others client c xs) (others client c xs)) is);
        shorter = omega arith;
      })

  -- a later one is
  taken_later : (c : ℕ) (x row : X) (xs : List X) → (client x == c) ≡ false → (number x == number row) ≡ false
      → IsTaken client key c (key row) xs (except number (number row) xs)
      → IsTaken client key c (key row) (x ∷ xs) (except number (number row) (x ∷ xs))
  taken_later c x row xs is other h =
      let rest = except number (number row) xs in
      let left : except number (number row) (x ∷ xs) ≡ x ∷ rest = ap (λ b. cond (not b) (x ∷ rest) rest) other in
      subst (IsTaken client key c (key row) (x ∷ xs)) (sym left) (record {
        keys =
            same-trans (key x ∷ map key xs) (key x ∷ key row ∷ map key rest) (key row ∷ key x ∷ map key rest)
            (same-cons (key x) (map key xs) (key row ∷ map key rest) h.keys)
            (same-swap (key x) (key row) (map key rest));
        others_stay =
            ap (λ b. cond (not b) (x ∷ others client c rest) (others client c rest)) is ∙ ap (λ l. x ∷ l) h.others_stay
            ∙ sym (ap (λ b. cond (not b) (x ∷ others client c xs) (others client c xs)) is);
        shorter = let fewer = h.shorter in omega (arith, fewer);
      })

  taken : (c : ℕ) → (xs : List X) (row : X) → InOrder (λ x y. nat_lt (number x) (number y)) xs
      → find (λ x. client x == c) xs ≡ Some row → IsTaken client key c (key row) xs (except number (number row) xs)
  taken c [] row o e = absurd (let n : None ≡ Some row = e in cc)
  taken c (x ∷ xs) row o e =
      elim (client x == c) as (λ b. (client x == c) ≡ b → cond b (Some x) (find (λ x. client x == c) xs) ≡ Some row → IsTaken client key c (key row) (x ∷ xs) (except number (number row) (x ∷ xs))) [
        | true ↦ λ is j.
            let same : x ≡ row = let s : Some x ≡ Some row = j in cc in
            subst (λ r. IsTaken client key c (key r) (x ∷ xs) (except number (number r) (x ∷ xs))) same
            (taken_first c x xs is o.0)
        | false ↦ λ is j. taken_later c x row xs is (less (number x) (number row) (found_one (λ x. client x == c) (λ y. nat_lt (number x) (number y) ≡ true) xs row o.0 j)) (taken c xs row o.1 j)
      ] refl e

  -- The row that was taken was the client's and named this key, and the rows of other clients remain.
  pub first_taken : (c n k : ℕ) (xs : List X) → InOrder (λ x y. nat_lt (number x) (number y)) xs
      → Some (n, k) ≡ option_map (number_and_key number key) (find (λ x. client x == c) xs)
      → IsTaken client key c k xs (except number n xs)
  first_taken c n k xs o e =
      elim (find (λ x. client x == c) xs) as (λ (found : Option X). find (λ x. client x == c) xs ≡ found → Some (n, k) ≡ option_map (number_and_key number key) found → IsTaken client key c k xs (except number n xs)) [
        | None ↦ λ is j. absurd (let no : Some (n, k) ≡ None = j in cc)
        | Some row ↦ λ is j.
            let s : Some (n, k) ≡ Some (number row, key row) = j in
            let at : number row ≡ n = sym (ap (λ o. option_map_or (λ (p : ℕ × ℕ). p.0) o 0) s) in
            let named : key row ≡ k = sym (ap (λ o. option_map_or (λ (p : ℕ × ℕ). p.1) o 0) s) in
            subst (λ m. IsTaken client key c m xs (except number n xs)) named
            (subst (λ m. IsTaken client key c (key row) xs (except number m xs)) at (taken c xs row o is))
      ] refl e

  -- If nothing was taken, the client has no row.
  pub none_taken : (c : ℕ) (xs : List X) → None ≡ option_map (number_and_key number key) (find (λ x. client x == c) xs)
      → others client c xs ≡ xs
  none_taken c xs e =
      let none : find (λ x. client x == c) xs ≡ None =
      elim (find (λ x. client x == c) xs) as (λ (found : Option X). None ≡ option_map (number_and_key number key) found → found ≡ None) [ None ↦ λ j. refl | Some row ↦ λ j. absurd (let n : None ≡ Some (number row, key row) = j in cc) ] e in
      filter_all (λ x. not (client x == c)) xs
      (all_weaker (λ x. (client x == c) ≡ false) (λ x. not (client x == c) ≡ true) (λ x n. ap not n) xs (none_found (λ x. client x == c) xs none))

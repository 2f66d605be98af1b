-- Magics: that no two clients of a master have one number, and that one is always free.
use Rattle.std.proofs.Common.{◌≡◌, ℕ, zero, suc, ◌<◌, ◌≤◌, ◌==◌, Bool, true, false, not, cond, ◌&&◌, ◌||◌, List, [], ◌∷◌, filter, find, length, Option, None, Some, refl, sym, ap, subst, ◌∙◌, arith}
use Rattle.std.specs.List.{list_any}
use Rattle.std.specs.Option.{option_map_or}
use Rattle.std.proofs.Math.Bool.{and-false}
use Rattle.std.proofs.lemmas.Bool.{false≢true, eqb-true, not-false}
use Rattle.std.proofs.lemmas.Bool.Decides.{nat_tests}
use Rattle.drm_index_array.specs.Least.{least}
use Rattle.drm_index_array.proofs.Least.{least_none}
use Rattle.drm_index_array.proofs.Lists.{filter-fewer, all_each}
use Rattle.drm_index_array.proofs.Rising.{any_left}
use Rattle.drm_masters.specs.declared.rows.Magic.{Magic}
use Rattle.drm_masters.specs.declared.rows.Member.{Member}
use Rattle.drm_masters.specs.Masters.{has_magic, is_client, HaveOtherMagics}
use Rattle.drm_masters.specs.Calls.{with_magic}

-- A client without a magic does not have any number.
pub no_magic : (m n : ℕ) (x : Member) → x.magic ≡ None → has_magic m n x ≡ false
no_magic m n x e =
    ap (λ (g : Option Magic). (x.master == m) && option_map_or (λ (h : Magic). h.number == n) g false) e
    ∙ and-false (x.master == m)

-- where each number from 1 to n is some element's, there are n of them
as_many : {X : Type 0} (has : ℕ → X → Bool) → ((i n : ℕ) (x : X) → i < n → has n x ≡ true → has i x ≡ false)
    → (n : ℕ) (xs : List X) → ((i : ℕ) → 1 ≤ i → i ≤ n → list_any (has i) xs ≡ true) → n ≤ length xs
as_many has one zero xs all = omega arith
as_many has one (suc n) xs all =
    let lt = filter-fewer (has (suc n)) xs (all (suc n) (omega arith) (omega arith)) in
    let rest =
    as_many has one n (filter (λ x. not (has (suc n) x)) xs)
    (λ i low high. any_left (λ _. Unit {0}) (has (suc n)) (has i) (λ x u h. one i (suc n) x (omega (arith, high)) h) xs (all_each (λ _. Unit {0}) (λ _. tt) xs) (all i low (omega (arith, high))))
    in
    omega (arith, lt, rest)

-- a client has one number
one_number : (m i n : ℕ) (x : Member) → i < n → has_magic m n x ≡ true → has_magic m i x ≡ false
one_number m i n x lt h = by_magic x.magic (x.master == m) h
  where
    differ : (a : ℕ) → (a == n) ≡ true → (a == i) ≡ false
    differ a e = grind (arith, nat_tests)

    by_magic : (g : Option Magic) (b : Bool) → (b && option_map_or (λ (d : Magic). d.number == n) g false) ≡ true
        → (b && option_map_or (λ (d : Magic). d.number == i) g false) ≡ false
    by_magic None true k = refl
    by_magic None false k = refl
    by_magic (Some d) true k = differ d.number k
    by_magic (Some d) false k = refl

-- a list without what was found
abbrev Without : Member → List Member → Type 0
Without x ys =
    (zs : List Member) × (length zs < length ys) ×
    ((q : Member → Bool) → q x ≡ false → list_any q ys ≡ true → list_any q zs ≡ true)

more : (x y : Member) (ys : List Member) → Without x ys → Without x (y ∷ ys)
more x y ys w = (y ∷ w.0, let lt = w.1 in omega (arith, lt), λ q f h. by_first q f (q y) h)
  where
    by_first : (q : Member → Bool) → q x ≡ false → (b : Bool) → (b || list_any q ys) ≡ true
        → (b || list_any q w.0) ≡ true
    by_first q f true h = refl
    by_first q f false h = w.2 q f h

here_it : (x y : Member) (ys : List Member) → y ≡ x → Without x (y ∷ ys)
here_it x y ys same = (ys, omega arith, λ q f h. sym (ap (λ b. b || list_any q ys) (ap q same ∙ f)) ∙ h)

without : (x : Member) (ys : List Member) → find (is_client x.client) ys ≡ Some x → Without x ys
without x [] e = absurd (let n : None ≡ Some x = e in cc)
without x (y ∷ ys) e =
    (elim (is_client x.client y) as (λ b. cond b (Some y) (find (is_client x.client) ys) ≡ Some x → Without x (y ∷ ys)) [
      | true ↦ λ k. here_it x y ys (let s : Some y ≡ Some x = k in cc)
      | false ↦ λ k. more x y ys (without x ys k)
    ]) e

-- Among at most `last` clients, one of which has no magic, some number is free.
pub number_free : (m last : ℕ) (x : Member) (xs : List Member) → find (is_client x.client) xs ≡ Some x → x.magic ≡ None
    → length xs ≤ last → least (λ n. not (list_any (has_magic m n) xs)) 1 last ≡ None → ⊥
number_free m last x xs here none few taken =
    let all = least_none (λ n. not (list_any (has_magic m n) xs)) 1 last taken in
    let w = without x xs here in
    let rest =
    as_many (has_magic m) (one_number m) last w.0
    (λ i low high. w.2 (has_magic m i) (no_magic m i x none) (not-false _ (all i low high))) in
    omega (arith, rest, few, w.1)

-- ---- no two clients of a master have one number

module _ (x : Member) where
  -- No client shares a magic with one that has none.
  pub other_none : x.magic ≡ None → (y : Member) → HaveOtherMagics y x
  other_none e y n h = no_magic y.master n x e

  -- A client without a magic shares none with another client.
  pub none_other : x.magic ≡ None → (y : Member) → HaveOtherMagics x y
  none_other e y n h = absurd (false≢true (sym (no_magic x.master n x e) ∙ h))

-- the number of a row, and whose it is
number_of : (m n k : ℕ) (spent : Bool) (x : Member) → has_magic m n (with_magic k spent x) ≡ true
    → (x.master ≡ m) × (k ≡ n)
number_of m n k spent x h =
    (elim (x.master == m) as (λ b. (x.master == m) ≡ b → (b && (k == n)) ≡ true → (x.master ≡ m) × (k ≡ n)) [
      | true ↦ λ e i. (eqb-true x.master m e, eqb-true k n i)
      | false ↦ λ e i. absurd (let j : false ≡ true = i in cc)
    ]) refl h

-- a row with a number, where no other client of its master has it
module _ (x : Member) (k : ℕ) (spent : Bool) where
  -- A client that gets an unused magic shares none with a later client.
  pub given_before : (y : Member) → has_magic x.master k y ≡ false → HaveOtherMagics (with_magic k spent x) y
  given_before y free n h = let w = number_of x.master n k spent x h in subst (λ j. has_magic x.master j y ≡ false) w.1 free

  -- A client that gets an unused magic shares none with an earlier client.
  pub given_behind : (y : Member) → has_magic x.master k y ≡ false → HaveOtherMagics y (with_magic k spent x)
  given_behind y free n h = by_both (has_magic y.master n (with_magic k spent x)) refl
    where
      by_both : (b : Bool) → has_magic y.master n (with_magic k spent x) ≡ b → b ≡ false
      by_both false e = refl
      by_both true e =
          let w = number_of y.master n k spent x e in
          absurd
          (let f : has_magic x.master k y ≡ true = ap (λ m. has_magic m k y) w.0 ∙ ap (λ j. has_magic y.master j y) w.1 ∙ h in let c : false ≡ true = sym free ∙ f in cc)

-- Marking a magic as spent, or not, keeps its number.
pub spent_same : (m n k : ℕ) (spent : Bool) (x : Member)
    → option_map_or (λ (g : Magic). g.number == k) x.magic false ≡ true
    → has_magic m n (with_magic k spent x) ≡ has_magic m n x
spent_same m n k spent x h = by_magic x.magic refl h
  where
    by_magic : (g : Option Magic) → x.magic ≡ g → option_map_or (λ (d : Magic). d.number == k) g false ≡ true
        → has_magic m n (with_magic k spent x) ≡ has_magic m n x
    by_magic None e i = absurd (let j : false ≡ true = i in cc)
    by_magic (Some d) e i =
        ap (λ j. (x.master == m) && (j == n)) (sym (eqb-true d.number k i))
        ∙ ap (λ (g : Option Magic). (x.master == m) && option_map_or (λ (c : Magic). c.number == n) g false) (sym e)

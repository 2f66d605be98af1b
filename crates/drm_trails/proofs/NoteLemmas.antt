-- Lists of notes, of which the newest counts, and of numbers.
use Rattle.std.proofs.Common.{◌≡◌, ℕ, ◌==◌, Bool, true, false, cond, ◌&&◌, ◌||◌, List, [], ◌∷◌, ◌++◌, Some, filter, find, reverse, refl, sym, ◌∙◌, ap}
use Rattle.std.specs.List.{list_any}
use Rattle.std.proofs.lemmas.Bool.{eqb-true}
use Rattle.std.proofs.lemmas.List.{reverse-append}
use Rattle.drm_index_array.specs.Numbers.{is_among}

-- A search of the newest note that passes finds the last note if it passes, and else searches those before it.
pub find-newest : {X : Type 0} (p : X → Bool) (notes : List X) (note : X)
    → find p (reverse (notes ++ note ∷ [])) ≡ cond (p note) (Some note) (find p (reverse notes))
find-newest p notes note = ap (find p) (reverse-append notes (note ∷ []))

or_last : (a b : Bool) → (a || (b || false)) ≡ (b || a)
or_last true true = refl
or_last true false = refl
or_last false true = refl
or_last false false = refl

or_assoc : (a b c : Bool) → ((a || b) || c) ≡ (a || (b || c))
or_assoc true b c = refl
or_assoc false b c = refl

list_any-append : {X : Type 0} (p : X → Bool) (xs ys : List X)
    → list_any p (xs ++ ys) ≡ (list_any p xs || list_any p ys)
list_any-append p [] ys = refl
list_any-append p (x ∷ xs) ys =
    ap (λ b. p x || b) (list_any-append p xs ys) ∙ sym (or_assoc (p x) (list_any p xs) (list_any p ys))

-- A note passes if the last one does or any before it.
pub any-newest : {X : Type 0} (p : X → Bool) (notes : List X) (note : X)
    → list_any p (notes ++ note ∷ []) ≡ (p note || list_any p notes)
any-newest p notes note = list_any-append p notes (note ∷ []) ∙ or_last (list_any p notes) (p note)

-- A list with no notes appended is unchanged.
pub append-none : {X : Type 0} (notes : List X) → notes ++ [] ≡ notes
append-none [] = refl
append-none (x ∷ xs) = ap (λ l. x ∷ l) (append-none xs)

-- ---- lists of numbers

-- A number is among those that pass exactly if it is in the list and passes.
pub among-filter : (p : ℕ → Bool) (xs : List ℕ) (n : ℕ) → is_among (filter p xs) n ≡ (is_among xs n && p n)
among-filter p [] n = refl
among-filter p (x ∷ xs) n = of (p x) refl (among-filter p xs n)
  where
    here : (b : Bool) → p x ≡ b → x ≡ n → p n ≡ b
    here b is same = ap p (sym same) ∙ is

    of : (b : Bool) → p x ≡ b → is_among (filter p xs) n ≡ (is_among xs n && p n)
        → is_among (cond b (x ∷ filter p xs) (filter p xs)) n ≡ (((x == n) || is_among xs n) && p n)
    of true is k =
        (elim (x == n) as (λ b. (x == n) ≡ b → (b || is_among (filter p xs) n) ≡ ((b || is_among xs n) && p n)) [
          | true ↦ λ e. sym (here true is (eqb-true x n e))
          | false ↦ λ e. k
        ]) refl
    of false is k =
        (elim (x == n) as (λ b. (x == n) ≡ b → is_among (filter p xs) n ≡ ((b || is_among xs n) && p n)) [
          | true ↦ λ e. let no = here false is (eqb-true x n e) in k ∙ ap (λ b. is_among xs n && b) no ∙ and_false (is_among xs n) ∙ sym no
          | false ↦ λ e. k
        ]) refl
      where
        and_false : (b : Bool) → (b && false) ≡ false
        and_false true = refl
        and_false false = refl

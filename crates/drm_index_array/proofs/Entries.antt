-- Maps by numbers and lists of rows over their entries: orders of numbers, insertions, removals, and rows that change
-- together.
use Rattle.std.proofs.Common.{◌≡◌, ℕ, ◌<◌, ◌==◌, true, false, cond, T, List, [], ◌∷◌, map, Some, None, refl, sym, ap, ◌∙◌, nat_cmp, is_lt, arith}
use Rattle.std.specs.Prelude.{nat_lt}
use Rattle.std.specs.List.{AllByRecursion}
use Rattle.std.specs.Ordering.{eq_by_cmp}
use Rattle.std.specs.FinMap as fin
use Rattle.std.proofs.lemmas.Bool.{false≢true, eqb-true}
use Rattle.std.proofs.lemmas.Bool.Decides.{nat_tests}
use Rattle.drm_index_array.proofs.MarkedLemmas.{get-insert, get-remove}

-- ---- numbers

-- A number that the order of numbers calls less is lower.
pub less_of : (a b : ℕ) → T (is_lt (nat_cmp a b)) → a < b
less_of a b h = grind (arith, nat_tests)

-- The test of equality agrees with the order of numbers.
pub same_test : (k n : ℕ) → (n == k) ≡ eq_by_cmp nat_cmp k n
same_test k n = grind (arith, nat_tests)

-- The test "lower than" agrees with the order of numbers.
pub before_test : (a b : ℕ) → nat_lt a b ≡ is_lt (nat_cmp a b)
before_test a b = grind (arith, nat_tests)

-- Equal numbers pass the test of equality.
pub same : (a b : ℕ) → a ≡ b → (a == b) ≡ true
same a b e = grind (arith, nat_tests)

-- Different numbers fail the test of equality.
pub differ : (a b : ℕ) → (a ≡ b → ⊥) → (a == b) ≡ false
differ a b differs =
    elim (a == b) as (λ t. (a == b) ≡ t → t ≡ false) [ true ↦ λ e. absurd (differs (eqb-true a b e)) | false ↦ λ e. refl ] refl

-- Numbers that fail the test of equality differ.
pub apart : (a b : ℕ) → (a == b) ≡ false → a ≡ b → ⊥
apart a b differs e = false≢true (sym differs ∙ same a b e)

-- ---- maps

-- After an insertion, the key has the new value.
pub insert_same : (m : fin.FinMap nat_cmp ℕ) (n k : ℕ) → fin.get (fin.insert m n k) n ≡ Some k
insert_same m n k = get-insert m n k n ∙ ap (λ t. cond t (Some k) (fin.get m n)) (same n n refl)

-- An insertion leaves every other key unchanged.
pub insert_other : (m : fin.FinMap nat_cmp ℕ) (n k q : ℕ) → (q ≡ n → ⊥) → fin.get (fin.insert m n k) q ≡ fin.get m q
insert_other m n k q differs = get-insert m n k q ∙ ap (λ t. cond t (Some k) (fin.get m q)) (differ q n differs)

-- After a removal, the key has no value.
pub remove_same : (m : fin.FinMap nat_cmp ℕ) (n : ℕ) → fin.get (fin.remove m n) n ≡ None
remove_same m n = get-remove m n n ∙ ap (λ t. cond t None (fin.get m n)) (same n n refl)

-- A removal leaves every other key unchanged.
pub remove_other : (m : fin.FinMap nat_cmp ℕ) (n q : ℕ) → (q ≡ n → ⊥) → fin.get (fin.remove m n) q ≡ fin.get m q
remove_other m n q differs = get-remove m n q ∙ ap (λ t. cond t None (fin.get m q)) (differ q n differs)

-- ---- rows over entries, by one function and by another

module _ {X : Type 0} (f g : ℕ × ℕ → X) where
  -- If g is h after f on each entry, the rows by g are the rows by f, mapped by h.
  pub rows_over : (h : X → X) → (es : List (ℕ × ℕ)) → AllByRecursion (λ e. g e ≡ h (f e)) es
      → map g es ≡ map h (map f es)
  rows_over h [] all = refl
  rows_over h (e ∷ es) all = λ i. all.0 i ∷ rows_over h es all.1 i

  -- Two functions that agree on each entry make the same rows.
  pub rows_alike : (es : List (ℕ × ℕ)) → AllByRecursion (λ e. g e ≡ f e) es → map g es ≡ map f es
  rows_alike [] all = refl
  rows_alike (e ∷ es) all = λ i. all.0 i ∷ rows_alike es all.1 i

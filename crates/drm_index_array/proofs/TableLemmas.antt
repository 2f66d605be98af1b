-- What a table of a function returns.
use Rattle.std.proofs.Common.{◌≡◌, ℕ, zero, suc, ◌+◌, ◌<◌, ◌≤◌, Bool, true, false, cond, eqb, ltb, Option, Some, None, refl, ap, ◌∙◌, inl, inr, arith}
use Rattle.std.specs.Ordering.{nat_cmp}
use Rattle.std.specs.Cmp.{nat_cmp_total}
use Rattle.std.specs.FinMap as map
use Rattle.std.proofs.lemmas.Bool.{cases_order, lt-ltb, le-ltb, eq-eqb, ne_eqb}
use Rattle.drm_index_array.proofs.MarkedLemmas.{get-insert}
use Rattle.drm_index_array.specs.Tree.{table, given_at}

module _ {X : Type 0} where
  get-given_at : (n q : ℕ) (o : Option X) (m : map.FinMap nat_cmp X) → map.get m n ≡ None
      → map.get (given_at n o m) q ≡ cond (eqb q n) o (map.get m q)
  get-given_at n q (Some x) m none = get-insert m n x q
  get-given_at n q None m none =
      elim (cases_order q n) [
        | inl same ↦ rw (eq-eqb q n same, same) none
        | inr (inl less) ↦ rw (ne_eqb q n (omega arith)) refl
        | inr (inr more) ↦ rw (ne_eqb q n (omega arith)) refl
      ]

  -- A table has what the function returns below the bound and nothing past it.
  pub get-table : (n : ℕ) (f : ℕ → Option X) (q : ℕ) → map.get (table n f) q ≡ cond (ltb q n) (f q) None
  unfolding table
  get-table zero f q = map.get-empty nat_cmp q ∙ rw (le-ltb q 0 (omega arith)) refl
  get-table (suc n) f q =
      get-given_at n q (f n) (table n f) (get-table n f n ∙ rw (le-ltb n n (omega arith)) refl)
      ∙ ap (λ o. cond (eqb q n) (f n) o) (get-table n f q)
      ∙ elim (cases_order q n) [
        | inl same ↦ rw (eq-eqb q n same, lt-ltb q (suc n) (omega arith), same) refl
        | inr (inl less) ↦ rw (ne_eqb q n (omega arith), lt-ltb q n less, lt-ltb q (suc n) (omega arith)) refl
        | inr (inr more) ↦ rw (ne_eqb q n (omega arith), le-ltb q n (omega arith), le-ltb q (suc n) (omega arith)) refl
      ]

  -- Below the bound a table has what the function returns.
  pub get-table_within : (n : ℕ) (f : ℕ → Option X) (q : ℕ) → q < n → map.get (table n f) q ≡ f q
  get-table_within n f q lt = get-table n f q ∙ rw (lt-ltb q n lt) refl

  -- From the bound on a table has nothing.
  pub get-table_past : (n : ℕ) (f : ℕ → Option X) (q : ℕ) → n ≤ q → map.get (table n f) q ≡ None
  get-table_past n f q le = get-table n f q ∙ rw (le-ltb q n le) refl

  len-given_at : (n : ℕ) (o : Option X) (m : map.FinMap nat_cmp X) → map.len (given_at n o m) ≤ map.len m + 1
  len-given_at n None m = omega arith
  len-given_at n (Some x) m =
      omega (arith, map.len-insert nat_cmp_total m n x, either (map.contains_key m n) (map.len m))
    where
      either : (b : Bool) (k : ℕ) → cond b k (k + 1) ≤ k + 1
      either true k = omega arith
      either false k = omega arith

  -- A table has at most as many entries as its bound.
  pub len-table : (n : ℕ) (f : ℕ → Option X) → map.len (table n f) ≤ n
  unfolding table
  len-table zero f = omega (arith, map.len-empty nat_cmp X)
  len-table (suc n) f = omega (arith, len-given_at n (f n) (table n f), len-table n f)

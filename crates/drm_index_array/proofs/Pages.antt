-- Pages of a list, as a loop fills them.
use Rattle.std.proofs.Common.{◌≡◌, ℕ, zero, suc, ◌+◌, ◌≤◌, List, [], ◌∷◌, ◌++◌, None, Some, take, drop, refl, sym, ◌∙◌, ap, arith}
use Rattle.std.specs.Prelude.{slice_get}

one_more : (n : ℕ) → n + 1 ≡ suc n
one_more n = omega arith

more_of : (m n : ℕ) → suc m + n ≡ suc (m + n)
more_of m n = omega arith

none_of : (n : ℕ) → 0 + n ≡ n
none_of n = omega arith

module _ {X : Type 0} where
  get-drop : (rows : List X) (from place : ℕ) → slice_get rows (from + place) ≡ slice_get (drop from rows) place
  get-drop rows zero place = ap (slice_get rows) (none_of place)
  get-drop [] (suc from) place = refl
  get-drop (x ∷ xs) (suc from) place = ap (slice_get (x ∷ xs)) (more_of from place) ∙ get-drop xs from place

  take-more : (rows : List X) (place : ℕ) (x : X) → Some x ≡ slice_get rows place
      → take place rows ++ x ∷ [] ≡ take (suc place) rows
  take-more [] place x h = cc
  take-more (y ∷ ys) zero x h = let same : x ≡ y = cc in ap (λ z. z ∷ []) same
  take-more (y ∷ ys) (suc place) x h = ap (λ zs. y ∷ zs) (take-more ys place x h)

  take-end : (rows : List X) (place count : ℕ) → None ≡ slice_get rows place → place ≤ count
      → take place rows ≡ take count rows
  take-end [] zero zero h few = refl
  take-end [] zero (suc count) h few = refl
  take-end [] (suc place) zero h few = refl
  take-end [] (suc place) (suc count) h few = refl
  take-end (y ∷ ys) zero count h few = cc
  take-end (y ∷ ys) (suc place) zero h few = absurd (omega (arith, few))
  take-end (y ∷ ys) (suc place) (suc count) h few = ap (λ zs. y ∷ zs) (take-end ys place count h (omega (arith, few)))

  -- A page with the next row of the list is the page of one more row.
  pub page-more : (rows : List X) (from place : ℕ) (x : X) → Some x ≡ slice_get rows (from + place)
      → take place (drop from rows) ++ x ∷ [] ≡ take (place + 1) (drop from rows)
  page-more rows from place x h =
      take-more (drop from rows) place x (h ∙ get-drop rows from place)
      ∙ ap (λ n. take n (drop from rows)) (sym (one_more place))

  -- If the list has no further row, the page so far is the whole page.
  pub page-end : (rows : List X) (from place count : ℕ) → None ≡ slice_get rows (from + place) → place ≤ count
      → take place (drop from rows) ≡ take count (drop from rows)
  page-end rows from place count h few = take-end (drop from rows) place count (h ∙ get-drop rows from place) few

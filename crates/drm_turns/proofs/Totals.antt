-- What the views count, added up.
use Rattle.std.proofs.Common.{◌≡◌, ℕ, zero, suc, ◌+◌, List, [], ◌∷◌, ◌++◌, set, refl, sym, ap, arith}
use mathlib.Core.Option.{some, some-injective, some-ne-none}
use lib.ListN.{get_elem?}
use Rattle.drm_turns.specs.declared.history.View.{View}
use Rattle.drm_turns.specs.Rule.{total}

-- A change of one view changes the total by what it counts more or less.
pub total_set : (count : View → ℕ) (views : List View) (id : ℕ) (v w : View) → get_elem? views id ≡ some v
    → total count (set views id w) + count v ≡ total count views + count w
total_set count [] id v w at = absurd (some-ne-none v (sym at))
total_set count (x ∷ xs) zero v w at = let same = ap count (some-injective x v at) in omega arith
total_set count (x ∷ xs) (suc id) v w at = let h = total_set count xs id v w at in omega arith

-- A change of one view that counts as much leaves the total.
pub total_kept : (count : View → ℕ) (views : List View) (id : ℕ) (v w : View) → get_elem? views id ≡ some v
    → count w ≡ count v → total count (set views id w) ≡ total count views
total_kept count views id v w at same = let h = total_set count views id v w at in omega arith

-- The total with one more view is the old total and what the new view counts.
pub total_snoc : (count : View → ℕ) (views : List View) (c : View)
    → total count (views ++ c ∷ []) ≡ total count views + count c
total_snoc count [] c = omega arith
total_snoc count (x ∷ xs) c = let h = total_snoc count xs c in omega arith

total_none : (count : View → ℕ) (views : List View) → ((j : ℕ) (u : View) → get_elem? views j ≡ some u → count u ≡ 0)
    → total count views ≡ 0
total_none count [] none = refl
total_none count (x ∷ xs) none = let first = none 0 x refl in let more = total_none count xs (λ j u at. none (suc j) u at) in omega arith

-- If all other views count nothing, the total is what the first counts.
pub total_first : (count : View → ℕ) (views : List View) (v : View) → get_elem? views 0 ≡ some v
    → ((c : ℕ) (u : View) → get_elem? views (suc c) ≡ some u → count u ≡ 0) → total count views ≡ count v
total_first count [] v at none = absurd (some-ne-none v (sym at))
total_first count (x ∷ xs) v at none = let first = ap count (some-injective x v at) in let more = total_none count xs none in omega arith

-- The lowest number of a range that passes a test, and of a list (own). A range has both its ends.
use Rattle.std.specs.Prelude.{◌≡◌, ℕ, zero, suc, ◌+◌, ◌-◌, ◌<◌, ◌≤◌, ◌==◌, nat_le, Bool, true, false, if◌then◌else◌, List, [], ◌∷◌, Option, Some, None}
use Rattle.std.specs.List.{list_any}

-- the first of this many numbers from `from` on that passes
unfoldable pub first_passing : (ℕ → Bool) → ℕ → ℕ → Option ℕ
first_passing p from zero = None
first_passing p from (suc count) = elim (p from) [ true ↦ Some from | false ↦ first_passing p (from + 1) count ]

-- the lowest number from `from` to `to` that passes
unfoldable pub least : (ℕ → Bool) → ℕ → ℕ → Option ℕ
least p from to = first_passing p from (to + 1 - from)

-- n is the lowest number of the range that passes
pub record IsLeast (p : ℕ → Bool) (from to n : ℕ) : Type 0 where
  pub at_least : from ≤ n
  pub at_most : n ≤ to
  pub passes : p n ≡ true
  pub none_below : (k : ℕ) → from ≤ k → k < n → p k ≡ false

-- no number of the range passes
abbrev pub NonePasses : (ℕ → Bool) → ℕ → ℕ → Type 0
NonePasses p from to = (k : ℕ) → from ≤ k → k ≤ to → p k ≡ false

-- n is the lowest number from `from` on that passes
abbrev pub IsLeastFrom : (ℕ → Bool) → ℕ → ℕ → Type 0
IsLeastFrom p from n = IsLeast p from n n

-- the lower of two numbers, of which one may be missing
abbrev pub lesser : ℕ → Option ℕ → ℕ
lesser n None = n
lesser n (Some m) = if nat_le n m then n else m

-- the lowest number of a list, None where it is empty
abbrev pub least_of : List ℕ → Option ℕ
least_of [] = None
least_of (n ∷ ns) = Some (lesser n (least_of ns))

-- n is the lowest number of the list
pub record IsLeastOf (ns : List ℕ) (n : ℕ) : Type 0 where
  pub among : list_any (λ x. x == n) ns ≡ true
  pub at_most : (k : ℕ) → list_any (λ x. x == k) ns ≡ true → n ≤ k

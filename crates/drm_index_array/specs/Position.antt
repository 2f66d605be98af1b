-- The place of a number among those that pass a test (own).
use Rattle.std.specs.Prelude.{◌≡◌, ℕ, zero, suc, ◌+◌, ◌<◌, ◌≤◌, Bool, true, cond, Option, Some, None}

-- how many of this many numbers from `from` on pass
unfoldable pub passing : (ℕ → Bool) → ℕ → ℕ → ℕ
passing p from zero = 0
passing p from (suc count) = cond (p from) 1 0 + passing p (from + 1) count

-- n is below `end` and passes, and this many numbers below it do
pub record IsAtPosition (p : ℕ → Bool) (end position n : ℕ) : Type 0 where
  pub below : n < end
  pub passes : p n ≡ true
  pub before : passing p 0 n ≡ position

-- the number at a place of those below `end` that pass, or none if they are not that many
abbrev pub IsPlaced : (ℕ → Bool) → ℕ → ℕ → Option ℕ → Type 0
IsPlaced p end position None = passing p 0 end ≤ position
IsPlaced p end position (Some n) = IsAtPosition p end position n

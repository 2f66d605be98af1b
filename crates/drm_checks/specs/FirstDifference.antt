-- The first line in which two texts differ (own).
use Rattle.std.specs.Prelude.{◌≡◌, ◌≢◌, ◌==◌, ℕ, ◌+◌, List, take}
use Rattle.std.specs.List.{count_by, slice_get}

-- how many lines end in a text
abbrev pub line_ends : List ℕ → ℕ
line_ends text = count_by (λ byte. byte == 10) text

-- The first `at` bytes of both are the same, and what is next differs: another byte, or one of the texts ends. The line is
-- that of the next byte, from 1.
pub record DiffersIn (text other : List ℕ) (line : ℕ) : Type 0 where
  pub at : ℕ
  pub same : take at text ≡ take at other
  pub apart : slice_get text at ≢ slice_get other at
  pub line_is : line ≡ 1 + line_ends (take at text)

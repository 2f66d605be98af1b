-- Lists of numbers (own).
use Rattle.std.specs.Prelude.{ℕ, ◌==◌, Bool, List, length, filter}
use Rattle.std.specs.List.{list_any}

-- whether a number is in a list
abbrev pub is_among : List ℕ → ℕ → Bool
is_among numbers n = list_any (λ x. x == n) numbers

-- how often a number is in a list
abbrev pub count : List ℕ → ℕ → ℕ
count numbers n = length (filter (λ x. x == n) numbers)

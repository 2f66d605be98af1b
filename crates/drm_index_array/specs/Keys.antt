-- The keys of a map from a number on, in rising order (own).
use Rattle.std.specs.Prelude.{ℕ, List, nat_le, filter}
use Rattle.std.specs.Ordering.{nat_cmp}
use Rattle.std.specs.FinMap as map

-- the keys of a map from a number on
abbrev pub keys_from : {X : Type 0} → map.FinMap nat_cmp X → ℕ → List ℕ
keys_from m from = filter (λ k. nat_le from k) (map.keys m)

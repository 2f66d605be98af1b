-- Numbers that have one number each, found both ways (own).
use Rattle.std.specs.Prelude.{◌≡◌, ℕ, Some}
use Rattle.std.specs.Ordering.{nat_cmp}
use Rattle.std.specs.FinMap as map

-- by the one map a number has another exactly if by the other map that one has it
pub record AreBothWays (there back : map.FinMap nat_cmp ℕ) : Type 0 where
  pub named : (n k : ℕ) → map.get there n ≡ Some k → map.get back k ≡ Some n
  pub given : (k n : ℕ) → map.get back k ≡ Some n → map.get there n ≡ Some k

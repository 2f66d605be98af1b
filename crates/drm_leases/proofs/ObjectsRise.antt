-- The objects of a lease rise.
use Rattle.std.proofs.Common.{ℕ, zero, suc, ◌+◌, ◌<◌, arith}
use Rattle.std.specs.List.{AllByRecursion}
use Rattle.drm_index_array.specs.Orders.{InOrder}
use Rattle.drm_modes.specs.Numbers.{numbers_from}

from_on : (n first : ℕ) → n < first → (count : ℕ) → AllByRecursion (λ x. n < x) (numbers_from first count)
unfolding numbers_from
from_on n first lt zero = tt
from_on n first lt (suc count) = (lt, from_on n (first + 1) (omega (arith, lt)) count)

-- Numbers that follow one another rise.
pub numbers_rise : (first count : ℕ) → InOrder (λ x y. x < y) (numbers_from first count)
unfolding numbers_from
numbers_rise first zero = tt
numbers_rise first (suc count) = (from_on first (first + 1) (omega arith) count, numbers_rise (first + 1) count)

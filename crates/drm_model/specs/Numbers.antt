-- Numbers and how they are allocated (the kernel's IDR; the limits are own).
use Rattle.std.specs.Prelude.{ℕ, ◌+◌, nat_le, Bool, List, Option}
use Rattle.std.specs.Option.{option_or}
use Rattle.drm_index_array.specs.Orders.{sorted_by}
use Rattle.drm_index_array.specs.Least.{least}

-- the same numbers, each not below the one before
abbrev pub rising : List ℕ → List ℕ
rising numbers = sorted_by nat_le numbers

-- The next number in rotation, of those up to the last. It is the lowest free one above the one that was assigned last
-- or, if there is none, the lowest free one (the kernel's cyclic IDR).
abbrev pub next_in_turn : (ℕ → Bool) → ℕ → ℕ → Option ℕ
next_in_turn is_free given last = option_or (least is_free (given + 1) last) (least is_free 1 last)

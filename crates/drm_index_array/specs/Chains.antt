-- Chains of numbers, where each may have one above it (own).
use Rattle.std.specs.Prelude.{ℕ, zero, suc, Bool, List, [], ◌∷◌, length, drop, Option, None, Some}
use Rattle.drm_index_array.specs.Numbers.{is_among}

-- a number, the one above it, the one above that and so on, in this many steps at most
unfoldable pub chain_within : ℕ → (ℕ → Option ℕ) → ℕ → List ℕ
chain_within zero above n = n ∷ []
chain_within (suc steps) above n = n ∷ elim (above n) [ None ↦ [] | Some m ↦ chain_within steps above m ]

-- where what is above is less, as many steps as the number are enough
abbrev pub chain_of : (ℕ → Option ℕ) → ℕ → List ℕ
chain_of above n = chain_within n above n

-- the last number of a chain, or n if it is empty
abbrev pub last_of : ℕ → List ℕ → ℕ
last_of n [] = n
last_of n (x ∷ xs) = last_of x xs

-- the top of the chain
abbrev pub top_of : (ℕ → Option ℕ) → ℕ → ℕ
top_of above n = last_of n (chain_of above n)

-- whether n is the number named top, or below it
abbrev pub is_under : (ℕ → Option ℕ) → ℕ → ℕ → Bool
is_under above top n = is_among (chain_of above n) top

-- how many are above it in the chain
abbrev pub depth_of : (ℕ → Option ℕ) → ℕ → ℕ
depth_of above n = length (drop 1 (chain_of above n))

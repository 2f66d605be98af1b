-- The numbers of each group (own).
use Rattle.std.specs.Prelude.{◌≡◌, ℕ, ◌==◌, ◌&&◌, ◌||◌, Bool, false, not, List, []}
use Rattle.std.specs.Option.{option_map_or}
use Rattle.std.specs.Ordering.{nat_cmp}
use Rattle.std.specs.FinMap as map
use Rattle.std.specs.Coded.{Coded, coded_ℕ}
use base.Stored.{coded_unit}
use Rattle.drm_index_array.specs.Indexed.{Indexed, indexed_code}

-- whether a group has a number
abbrev pub Groups : Type 0
Groups = ℕ → ℕ → Bool

-- the groups are unchanged
abbrev pub AreSame : Groups → Groups → Type 0
AreSame old new = (d u : ℕ) → new d u ≡ old d u

-- the group has the number besides
abbrev pub IsAdded : Groups → ℕ → ℕ → Groups → Type 0
IsAdded old g n new = (d u : ℕ) → new d u ≡ (old d u || ((d == g) && (u == n)))

-- the group has the number no more
abbrev pub IsTaken : Groups → ℕ → ℕ → Groups → Type 0
IsTaken old g n new = (d u : ℕ) → new d u ≡ (old d u && not ((d == g) && (u == n)))

-- the groups of a map from each group to what has its numbers
abbrev pub groups_in : {Y : Type 0} → (Y → ℕ → Bool) → map.FinMap nat_cmp Y → Groups
groups_in has m g n = option_map_or (λ y. has y n) (map.get m g) false

-- each number that the map has is in the group that its value names, and no other is in any
abbrev pub AreGroupsOf : {X : Type 0} → (X → ℕ) → map.FinMap nat_cmp X → Groups → Type 0
AreGroupsOf group m groups = (g n : ℕ) → groups g n ≡ option_map_or (λ x. group x == g) (map.get m n) false

-- what has the numbers of each group that has one
abbrev pub GroupMap : Type 0
GroupMap = map.FinMap nat_cmp (Indexed (Unit {0}))

-- the code of the map of groups
abbrev pub group_code : Coded GroupMap
group_code = map.code coded_ℕ (indexed_code coded_unit)

-- whether a group's numbers have n
abbrev pub has_number : Indexed (Unit {0}) → ℕ → Bool
has_number numbers n = map.contains_key numbers.items n

-- whether a group has a number
abbrev pub has : GroupMap → Groups
has m = groups_in has_number m

-- the numbers of a group, rising
abbrev pub numbers_of : GroupMap → ℕ → List ℕ
numbers_of m g = option_map_or (λ (numbers : Indexed (Unit {0})). map.keys numbers.items) (map.get m g) []

-- it has the number besides
abbrev pub IsNoted : Indexed (Unit {0}) → ℕ → Indexed (Unit {0}) → Type 0
IsNoted old n new = (u : ℕ) → has_number new u ≡ (has_number old u || (u == n))

-- it has the number no more
abbrev pub IsForgotten : Indexed (Unit {0}) → ℕ → Indexed (Unit {0}) → Type 0
IsForgotten old n new = (u : ℕ) → has_number new u ≡ (has_number old u && not (u == n))

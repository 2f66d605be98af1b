-- Sets of fixed mode objects as words, and the leases that they represent (own).
use Rattle.std.specs.Prelude.{◌≡◌, ℕ, ◌≤◌, ◌-◌, ◌==◌, nat_le, nat_lt, Bool, true, false, ◌&&◌, List, [], ◌∷◌, map as list_map, filter, flat_map, unwrap_or}
use Rattle.std.specs.List.{list_any}
use Rattle.std.specs.Ordering.{nat_cmp}
use Rattle.std.specs.FinMap as map
use Rattle.drm_index_array.specs.Word.{has_bit}
use Rattle.drm_modes.specs.Numbers.{numbers_from}
use Rattle.drm_leases.specs.declared.rows.Lease.{Lease}
use Rattle.drm_leases.specs.declared.rows.LeaseRecord.{LeaseRecord}
use Rattle.drm_leases.specs.declared.rows.Grant.{Grant}
use Rattle.drm_leases.specs.Leases.{Lending}

-- there are 64 fixed mode objects at most
abbrev pub IsFixed : ℕ → Type 0
IsFixed x = (1 ≤ x) × (x ≤ 64)

-- bit x - 1 is object x
abbrev pub has_object : ℕ → ℕ → Bool
has_object mask x = (nat_le 1 x && nat_le x 64) && has_bit mask (x - 1)

-- the mode objects of a mask, in rising order
abbrev pub objects_in : ℕ → List ℕ
objects_in mask = filter (has_object mask) (numbers_from 1 64)

-- whether a list is empty
abbrev pub is_empty : {X : Type 0} → List X → Bool
is_empty [] = true
is_empty (x ∷ xs) = false

-- leases

-- in the order of their lessees' step numbers
pub record LeaseRows : Type 0 where
  pub rows : List Lease

-- a lease with these parts
abbrev pub lease : ℕ → ℕ → ℕ → ℕ → Lease
lease lessee lessor key objects = record { lessee = lessee; lessor = lessor; key = key; objects = objects }

-- the order of the leases
abbrev pub lease_before : Lease → Lease → Bool
lease_before x y = nat_lt x.lessee y.lessee

-- the lease of an entry
abbrev pub lease_row : ℕ × LeaseRecord → Lease
lease_row e = lease e.0 e.1.lessor e.1.key e.1.objects

-- the leases of all entries, in their order
abbrev pub leases_in : map.FinMap nat_cmp LeaseRecord → List Lease
leases_in kept = list_map lease_row (map.entries kept)

-- the grants of a lease
abbrev pub grants_of : Lease → List Grant
grants_of x = list_map (λ id. record { master = x.lessee; mode_object = id }) (objects_in x.objects)

-- the grants of all leases, in their order
abbrev pub grants_in : List Lease → List Grant
grants_in rows = flat_map grants_of rows

-- the row of a lease's lessee and lessor
abbrev pub lending_of : Lease → Lending
lending_of x = record { lessee = x.lessee; lessor = x.lessor; key = x.key }

-- the rows of all leases' lessees and lessors
abbrev pub lendings_in : List Lease → List Lending
lendings_in rows = list_map lending_of rows

-- the lease has a mode object
abbrev pub IsFull : Lease → Type 0
IsFull x = is_empty (objects_in x.objects) ≡ false

-- what is lent

-- whether it is a lease by this lessor that has the mode object
abbrev pub lends : ℕ → ℕ → Lease → Bool
lends m x lease = (lease.lessor == m) && has_object lease.objects x

-- whether the lessor has lent the mode object
abbrev pub is_lent : List Lease → ℕ → ℕ → Bool
is_lent rows m x = list_any (lends m x) rows

-- no lessor lends a mode object by both
abbrev pub AreApart : Lease → Lease → Type 0
AreApart a b = (m x : ℕ) → lends m x a ≡ true → lends m x b ≡ false

-- the mask of a lessor; who has none has lent nothing
abbrev pub mask_at : map.FinMap nat_cmp ℕ → ℕ → ℕ
mask_at masks m = unwrap_or (map.get masks m) 0

-- The granted leases that the fields represent (own).
use Rattle.std.specs.Prelude.{◌≡◌, ℕ, Some}
use Rattle.std.specs.FinMap as map
use Rattle.std.specs.List.{AllByRecursion}
use Rattle.std.specs.Option.{option_map}
use Rattle.drm_index_array.specs.Orders.{InOrder}
use Rattle.drm_leases.specs.declared.granted.Granted.TheInside.{Inside}
use Rattle.drm_leases.specs.declared.rows.LeaseRecord.{LeaseRecord}
use Rattle.drm_leases.specs.Masks.{LeaseRows, has_object, leases_in, IsFull, is_lent, AreApart, mask_at}

-- the rows in the fields
abbrev pub rows_of : Inside → LeaseRows
rows_of a = record { rows = leases_in a.leases.items }

-- Each lease has a mode object, and no lessor lends one twice. The mask of each is that of what its leases have. A key
-- leads to exactly the lessee whose lease has it.
pub record IsGranted (a : Inside) : Type 0 where
  pub full : AllByRecursion IsFull (leases_in a.leases.items)
  pub apart : InOrder AreApart (leases_in a.leases.items)
  pub lent : (m x : ℕ) → has_object (mask_at a.lent.masks.items m) x ≡ is_lent (leases_in a.leases.items) m x
  pub keyed : (m : ℕ) (x : LeaseRecord) → map.get a.leases.items m ≡ Some x → map.get a.lessees.items x.key ≡ Some m
  pub named : (key m : ℕ) → map.get a.lessees.items key ≡ Some m
      → option_map (λ (x : LeaseRecord). x.key) (map.get a.leases.items m) ≡ Some key

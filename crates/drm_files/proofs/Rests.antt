-- What is left of a client, one handle after another.
use Rattle.std.proofs.Common.{◌≡◌, ℕ, ◌+◌, ◌<◌, ◌≤◌, false, List, [], ◌∷◌, map, Option, Some, None, SomeIff, IsTrue, sym, ap, arith}
use Rattle.std.specs.FinMap as fin
use Rattle.drm_index_array.specs.Least.{least}
use Rattle.drm_index_array.proofs.Least.{least_some}
use Rattle.drm_id_alloc.specs.Table.{Table}
use Rattle.drm_files.specs.declared.files.Held.{Held}
use Rattle.drm_files.specs.Records.{pairs_of, pairs_from}
use Rattle.drm_files.proofs.Walks.{from_zero, from_none, from_least, from_past}

abbrev pairs_by : List (ℕ × Held) → List (ℕ × ℕ)
pairs_by es = map {B = ℕ × ℕ} (λ e. (e.0, e.1.object)) es

module _ (t : Table Held) where
  -- The pairs from 0 on are all pairs.
  pub all_left : pairs_from t (Some 0) ≡ pairs_of t
  all_left = ap pairs_by (from_zero t.slots)

  -- If no handle from a number on is left, no pairs are left.
  pub nothing_left : (from : ℕ) → ((k : ℕ) → from ≤ k → fin.contains_key t.slots k ≡ false)
      → pairs_from t (Some from) ≡ []
  nothing_left from none = ap pairs_by (from_none t.slots from none)

  -- The pairs that are left begin with the lowest handle and its object.
  pub taken : (from h : ℕ) (x : Held) → Some h ≡ least (fin.contains_key t.slots) from 4294967295
      → fin.get t.slots h ≡ Some x → pairs_from t (Some from) ≡ (h, x.object) ∷ pairs_from t (Some (h + 1))
  taken from h x is found =
      ap pairs_by
      (from_least t.slots from 4294967295 h x (least_some _ from 4294967295 h (sym is)) found)

  -- From the number above a handle on, the pairs past the handle are left, and none past `u32`.
  pub above : (h : ℕ) (next : Option ℕ) → ((k : ℕ) → IsTrue (fin.contains_key t.slots k) → k ≤ 4294967295)
      → SomeIff next (h + 1 < 4294967296) (h + 1) → pairs_from t next ≡ pairs_from t (Some (h + 1))
  above h (Some n) bound is = ap (λ k. pairs_from t (Some k)) is.1
  above h None bound past = sym (ap pairs_by (from_past t.slots (h + 1) bound (omega (arith, past))))

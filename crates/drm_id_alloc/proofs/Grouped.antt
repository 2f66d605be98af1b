-- The first row of a group: that of the least number that the group has.
use Rattle.std.proofs.Common.{◌≡◌, ℕ, ◌≤◌, ◌==◌, Bool, false, IsTrue, map, is_some, find as find_row, Some, None, sym, ap, ◌∙◌, arith, nat_cmp}
use Rattle.std.specs.Option.{option_map_or}
use Rattle.std.specs.FinMap as fin
use Rattle.std.proofs.lemmas.Bool.{false≢true, eqb-true}
use Rattle.drm_index_array.specs.Least.{least}
use Rattle.drm_index_array.proofs.Least.{least_none, least_some}
use Rattle.drm_id_alloc.specs.Groups.{Groups, AreGroupsOf}
use Rattle.drm_id_alloc.proofs.NumberTable.{first_found, none_found}

module _ {X : Type 0} (group : X → ℕ) (m : fin.FinMap nat_cmp X) (groups : Groups) (are : AreGroupsOf group m groups) (g : ℕ) where
  by_group : (k : ℕ) (w : X) → fin.get m k ≡ Some w → groups g k ≡ (group w == g)
  by_group k w at = are g k ∙ ap (λ o. option_map_or (λ x. group x == g) o false) at

  -- The lowest number of a group has a value in the map.
  pub least_there : (n : ℕ) → least (groups g) 0 4294967295 ≡ Some n → fin.get m n ≡ None → ⊥
  least_there n is absent =
      let first = least_some (groups g) 0 4294967295 n is in
      false≢true (sym (are g n ∙ ap (λ o. option_map_or (λ x. group x == g) o false) absent) ∙ first.passes)

  -- The value at the lowest number of a group is of the group.
  pub least_of_group : (n : ℕ) (w : X) → least (groups g) 0 4294967295 ≡ Some n → fin.get m n ≡ Some w → group w ≡ g
  least_of_group n w is at =
      eqb-true (group w) g (sym (by_group n w at) ∙ (least_some (groups g) 0 4294967295 n is).passes)

  module _ {Y : Type 0} (row : ℕ × X → Y) (p : Y → Bool) (is_of : (e : ℕ × X) → p (row e) ≡ (group e.1 == g)) where
    -- If the group has no number, no row is of the group.
    pub no_row_of_group : ((k : ℕ) → IsTrue (fin.contains_key m k) → k ≤ 4294967295)
        → least (groups g) 0 4294967295 ≡ None → find_row p (map row (fin.entries m)) ≡ None
    no_row_of_group bound none =
        none_found row m p
        (λ k w at. is_of (k, w) ∙ sym (by_group k w at) ∙ least_none (groups g) 0 4294967295 none k (omega arith) (bound k (ap is_some at)))

    -- The first row of the group is the row of the lowest number that the group has.
    pub first_row_of_group : (n : ℕ) (w : X) → least (groups g) 0 4294967295 ≡ Some n → fin.get m n ≡ Some w
        → find_row p (map row (fin.entries m)) ≡ Some (row (n, w))
    first_row_of_group n w is at =
        let first = least_some (groups g) 0 4294967295 n is in
        first_found row m p n w at (is_of (n, w) ∙ sym (by_group n w at) ∙ first.passes)
        (λ k v less there. is_of (k, v) ∙ sym (by_group k v there) ∙ first.none_below k (omega arith) less)

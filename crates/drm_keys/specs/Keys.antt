-- Records in a slab, by the keys of their step numbers (own).
use Rattle.std.specs.Prelude.{◌≡◌, ℕ, List, map as list_map, Some, unwrap_or}
use Rattle.std.specs.Ordering.{nat_cmp}
use Rattle.std.specs.FinMap as map
use Rattle.slab.specs.Slab.{Slab, get}

-- the records of these step numbers and keys; `nothing` is used if none is kept
abbrev pub rows_in : {X : Type 0} → X → Slab X → List (ℕ × ℕ) → List X
rows_in nothing slab entries = list_map (λ entry. unwrap_or (get slab entry.1) nothing) entries

-- each step number's key has the record of that step number, which has its key, and no other record is kept
pub record IsKeyed {X : Type 0} (key step_number : X → ℕ) (keys : map.FinMap nat_cmp ℕ) (slab : Slab X) : Type 0 where
  pub record_of : (b k : ℕ) → map.get keys b ≡ Some k
      → (x : X) × (get slab k ≡ Some x) × (step_number x ≡ b) × (key x ≡ k)
  pub key_of : (k : ℕ) (x : X) → get slab k ≡ Some x → (key x ≡ k) × (map.get keys (step_number x) ≡ Some k)

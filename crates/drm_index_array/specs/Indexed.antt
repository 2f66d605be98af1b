-- A finite map from numbers, and three sets of its keys (own; the kernel's XArray has such marks).
use Rattle.std.specs.Prelude.{ℕ, Bool, true, false, refl}
use Rattle.std.specs.Ordering.{nat_cmp}
use Rattle.std.specs.FinMap as map
use Rattle.std.specs.FinSet as set
use Rattle.std.specs.Coded.{Coded, code_by, coded×, coded_ℕ}
use Rattle.drm_index_array.specs.declared.marks.Mark.{Mark}
use Rattle.drm_index_array.specs.declared.marks.Mark.TheVariants.{M0, M1, M2}

-- a map from numbers, and for each mark the keys that have it
pub record Indexed (T : Type 0) : Type 0 where
  pub items : map.FinMap nat_cmp T
  pub m0 : set.FinSet nat_cmp
  pub m1 : set.FinSet nat_cmp
  pub m2 : set.FinSet nat_cmp

-- stored as the tuple of its fields
abbrev pub indexed_code : {T : Type 0} → Coded T → Coded (Indexed T)
indexed_code {T} code =
    code_by
    (map.FinMap nat_cmp T × (set.FinSet nat_cmp × (set.FinSet nat_cmp × set.FinSet nat_cmp)))
    (coded× (map.code coded_ℕ code) (coded× (set.code coded_ℕ) (coded× (set.code coded_ℕ) (set.code coded_ℕ))))
    (λ a. (a.items, (a.m0, (a.m1, a.m2))))
    (λ p. record { items = p.0; m0 = p.1.0; m1 = p.1.1.0; m2 = p.1.1.1 })
    (λ _. refl)

module _ {T : Type 0} where
  abbrev pub empty_array : Indexed T
  empty_array = record { items = map.empty; m0 = set.empty; m1 = set.empty; m2 = set.empty }

  -- the indices that carry a mark
  abbrev pub marked_with : Indexed T → Mark → set.FinSet nat_cmp
  marked_with a M0 = a.m0
  marked_with a M1 = a.m1
  marked_with a M2 = a.m2

  abbrev pub with_item : Indexed T → ℕ → T → Indexed T
  with_item a i v = record a { items = map.insert a.items i v }

  abbrev pub without_item : Indexed T → ℕ → Indexed T
  without_item a i =
      record { items = map.remove a.items i; m0 = set.remove a.m0 i; m1 = set.remove a.m1 i; m2 = set.remove a.m2 i }

  abbrev pub with_mark : Indexed T → ℕ → Mark → Indexed T
  with_mark a i M0 = record a { m0 = set.insert a.m0 i }
  with_mark a i M1 = record a { m1 = set.insert a.m1 i }
  with_mark a i M2 = record a { m2 = set.insert a.m2 i }

  abbrev pub without_mark : Indexed T → ℕ → Mark → Indexed T
  without_mark a i M0 = record a { m0 = set.remove a.m0 i }
  without_mark a i M1 = record a { m1 = set.remove a.m1 i }
  without_mark a i M2 = record a { m2 = set.remove a.m2 i }

  abbrev pub written_mark : Indexed T → ℕ → Mark → Bool → Indexed T
  written_mark a i m true = with_mark a i m
  written_mark a i m false = without_mark a i m

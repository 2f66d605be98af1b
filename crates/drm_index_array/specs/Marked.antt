-- A value with its three marks, and the map of such values (own).
use Rattle.std.specs.Prelude.{ℕ, Bool, false, Option, Some, None, option_map, map as list_map, refl}
use Rattle.std.specs.Option.{option_map_or}
use Rattle.std.specs.Ordering.{nat_cmp}
use Rattle.std.specs.FinMap as map
use Rattle.std.specs.FinSet as set
use Rattle.std.specs.Coded.{Coded, code_by, coded×, coded_bool}
use Rattle.drm_index_array.specs.Indexed.{Indexed}
use Rattle.drm_index_array.specs.declared.marks.Mark.{Mark}
use Rattle.drm_index_array.specs.declared.marks.Mark.TheVariants.{M0, M1, M2}

-- a value with its marks
pub record Marked (T : Type 0) : Type 0 where
  pub value : T
  pub m0 : Bool
  pub m1 : Bool
  pub m2 : Bool

-- stored as the tuple of its fields
abbrev pub marked_code : {T : Type 0} → Coded T → Coded (Marked T)
marked_code {T} code =
    code_by
    (T × (Bool × (Bool × Bool)))
    (coded× code (coded× coded_bool (coded× coded_bool coded_bool)))
    (λ s. (s.value, (s.m0, (s.m1, s.m2))))
    (λ p. record { value = p.0; m0 = p.1.0; m1 = p.1.1.0; m2 = p.1.1.1 })
    (λ _. refl)

-- a map from numbers to values with their marks
abbrev pub MarkedMap : Type 0 → Type 0
MarkedMap T = map.FinMap nat_cmp (Marked T)

module _ {T : Type 0} where
  -- a value that carries no mark
  abbrev pub unmarked : T → Marked T
  unmarked v = record { value = v; m0 = false; m1 = false; m2 = false }

  abbrev pub mark_of : Marked T → Mark → Bool
  mark_of s M0 = s.m0
  mark_of s M1 = s.m1
  mark_of s M2 = s.m2

  abbrev pub with_mark : Marked T → Mark → Bool → Marked T
  with_mark s M0 b = record s { m0 = b }
  with_mark s M1 b = record s { m1 = b }
  with_mark s M2 b = record s { m2 = b }

  -- the value at an index
  abbrev pub get : MarkedMap T → ℕ → Option T
  get a i = option_map (λ s. s.value) (map.get a i)

  -- the entry at an index is there and carries the mark
  abbrev pub is_marked : MarkedMap T → ℕ → Mark → Bool
  is_marked a i m = option_map_or (λ s. mark_of s m) (map.get a i) false

  abbrev pub rewritten : MarkedMap T → ℕ → (Marked T → Marked T) → Option (Marked T) → MarkedMap T
  rewritten a i f None = a
  rewritten a i f (Some s) = map.insert a i (f s)

  -- the entry at an index, if there is one, is rewritten
  unfoldable pub rewrite : MarkedMap T → ℕ → (Marked T → Marked T) → MarkedMap T
  rewrite a i f = rewritten a i f (map.get a i)

  -- the entry at an index, if there is one, gets the mark or loses it
  abbrev pub write_mark : MarkedMap T → ℕ → Mark → Bool → MarkedMap T
  write_mark a i m b = rewrite a i (λ s. with_mark s m b)

  -- the entry at an index, if there is one, gets another value
  abbrev pub set_value : MarkedMap T → ℕ → T → MarkedMap T
  set_value a i v = rewrite a i (λ s. record s { value = v })

  -- the values alone, without their marks
  unfoldable pub values : MarkedMap T → map.FinMap nat_cmp T
  values a = map.from_sorted (list_map (λ e. (e.0, e.1.value)) (map.entries a))

  -- the indices whose entries carry a mark
  unfoldable pub marked_in : MarkedMap T → Mark → set.FinSet nat_cmp
  marked_in a m = set.retain (set.from_list (map.keys a)) (λ i. is_marked a i m)

  -- the values, and the indices with each mark
  abbrev pub array_of : MarkedMap T → Indexed T
  array_of a = record { items = values a; m0 = marked_in a M0; m1 = marked_in a M1; m2 = marked_in a M2 }

-- A table of values under numbers from `first` to `last`, and the number that was allocated last (own; the kernel's
-- IDR).
use Rattle.std.specs.Prelude.{◌≡◌, ℕ, ◌+◌, ◌≤◌, ◌<◌, Bool, not, IsTrue, IfSome, Option, Some, None, refl}
use Rattle.std.specs.Ordering.{nat_cmp}
use Rattle.std.specs.FinMap as map
use Rattle.std.specs.Coded.{Coded, code_by, coded×, coded_ℕ, coded_option}
use Rattle.drm_index_array.specs.Least.{least}

-- the values by their numbers, the range, and the last number that was allocated in rotation
pub record Table (T : Type 0) : Type 0 where
  pub slots : map.FinMap nat_cmp T
  pub first : ℕ
  pub last : ℕ
  pub last_given : Option ℕ

-- stored as the tuple of its fields
abbrev pub table_code : {T : Type 0} → Coded T → Coded (Table T)
table_code {T} code =
    code_by
    (map.FinMap nat_cmp T × (ℕ × (ℕ × Option ℕ)))
    (coded× (map.code coded_ℕ code) (coded× coded_ℕ (coded× coded_ℕ (coded_option coded_ℕ))))
    (λ t. (t.slots, (t.first, (t.last, t.last_given))))
    (λ p. record { slots = p.0; first = p.1.0; last = p.1.1.0; last_given = p.1.1.1 })
    (λ _. refl)

-- each number in use is in the range, and so is the last one given
pub record IsWithin {T : Type 0} (slots : map.FinMap nat_cmp T) (first last : ℕ) (last_given : Option ℕ) : Type 0 where
  pub in_order : first ≤ last
  pub fits : last ≤ 4294967295
  pub low : (id : ℕ) → IsTrue (map.contains_key slots id) → first ≤ id
  pub high : (id : ℕ) → IsTrue (map.contains_key slots id) → id ≤ last
  pub given_low : IfSome last_given (λ id. first ≤ id)
  pub given_high : IfSome last_given (λ id. id ≤ last)

-- each number of the range below the end is in use
abbrev pub AreUsedBelow : {T : Type 0} → map.FinMap nat_cmp T → ℕ → ℕ → Type 0
AreUsedBelow slots first end = (id : ℕ) → first ≤ id → id < end → IsTrue (map.contains_key slots id)

-- the numbers are within the range, and no free one is below the start of a search
pub record IsSearchable {T : Type 0} (slots : map.FinMap nat_cmp T) (first last : ℕ) (last_given : Option ℕ) (start : ℕ) : Type 0 where
  pub within : IsWithin slots first last last_given
  pub start_low : first ≤ start
  pub used : AreUsedBelow slots first start

-- a table of the numbers from 1 on, which keeps to its range
pub record IsNumbered {T : Type 0} (table : Table T) : Type 0 where
  pub first_is : table.first ≡ 1
  pub within : IsWithin table.slots table.first table.last table.last_given

-- the first of two options that is not empty
abbrev pub or_else : Option ℕ → Option ℕ → Option ℕ
or_else None other = other
or_else (Some n) other = Some n

module _ {T : Type 0} where
  abbrev pub empty_table : ℕ → ℕ → Table T
  empty_table first last = record { slots = map.empty; first = first; last = last; last_given = None }

  abbrev pub is_free : Table T → ℕ → Bool
  is_free t id = not (map.contains_key t.slots id)

  -- the lowest free number
  abbrev pub least_free : Table T → Option ℕ
  least_free t = least (is_free t) t.first t.last

  -- the lowest free number above the last one given, or where there is none, the lowest free number
  abbrev pub next_after : Table T → Option ℕ → Option ℕ
  next_after t None = least_free t
  next_after t (Some given) = or_else (least (is_free t) (given + 1) t.last) (least_free t)

  abbrev pub next_cyclic : Table T → Option ℕ
  next_cyclic t = next_after t t.last_given

  abbrev pub with_entry : Table T → ℕ → T → Table T
  with_entry t id v = record t { slots = map.insert t.slots id v }

  abbrev pub without_entry : Table T → ℕ → Table T
  without_entry t id = record t { slots = map.remove t.slots id }

-- The lessees of each owner, by their ids.
use Rattle.std.specs.Prelude.{◌≡◌, ℕ, ◌==◌, ◌&&◌, Bool, false, List, Option, None, Some, if◌then◌else◌}
use Rattle.std.specs.Option.{is_some, option_map_or, option_and_then}
use Rattle.std.specs.Ordering.{nat_cmp}
use Rattle.std.specs.FinMap as map
use Rattle.std.specs.Coded.{Coded, coded_ℕ}
use Rattle.drm_index_array.specs.Indexed.{Indexed, indexed_code}
use Rattle.drm_masters.specs.declared.rows.Master.{Master}
use Rattle.drm_masters.specs.Masters.{is_option, master_at, owner_of, is_lessee_of}

-- the step number of the lessee that has an id under an owner
abbrev pub Ids : Type 0
Ids = ℕ → ℕ → Option ℕ

-- what has the ids of each owner that has lessees
abbrev pub IdMap : Type 0
IdMap = map.FinMap nat_cmp (Indexed ℕ)

-- the code of the map of ids
abbrev pub id_code : Coded IdMap
id_code = map.code coded_ℕ (indexed_code coded_ℕ)

-- the lessee with an id in an owner's table
abbrev pub id_in : Option (Indexed ℕ) → ℕ → Option ℕ
id_in o i = option_and_then (λ (ids : Indexed ℕ). map.get ids.items i) o

-- the lessees by owner and id
abbrev pub id_at : IdMap → Ids
id_at m o i = id_in (map.get m o) i

-- the same but for one id of an owner
abbrev pub IsSet : Ids → ℕ → ℕ → Option ℕ → Ids → Type 0
IsSet old o i step_number new = (p q : ℕ) → new p q ≡ (if (p == o) && (q == i) then step_number else old p q)

-- whether this is the id of a lessee of the owner; a master without a lessor has none
abbrev pub has_id : ℕ → Option ℕ → ℕ → ℕ → ℕ → Bool
has_id owner lessor id o i = is_some lessor && ((o == owner) && (i == id))

-- a master is found by its id besides, if it is a lessee
abbrev pub IsNamed : Ids → ℕ → Option ℕ → ℕ → ℕ → Ids → Type 0
IsNamed old owner lessor id step_number new =
    (o i : ℕ) → new o i ≡ (if has_id owner lessor id o i then Some step_number else old o i)

-- or not any more
abbrev pub IsUnnamed : Ids → ℕ → Option ℕ → ℕ → Ids → Type 0
IsUnnamed old owner lessor id new = (o i : ℕ) → new o i ≡ (if has_id owner lessor id o i then None else old o i)

-- the owner of a master that is to come: that of its lessor, or else itself
abbrev pub owner_to_be : List Master → Master → ℕ
owner_to_be ms x = option_map_or (owner_of ms) x.lessor x.step_number

-- by each id the lessee is found that has it under the owner
abbrev pub AreIdsOf : List Master → Ids → Type 0
AreIdsOf ms ids = (o i b : ℕ) → is_option b (ids o i) ≡ option_map_or (is_lessee_of ms o i) (master_at ms b) false

-- The table of masters that the fields represent (own).
use Rattle.std.specs.Prelude.{List, ◌≤◌}
use Rattle.std.specs.List.{AllByRecursion}
use Rattle.std.specs.FinMap as map
use Rattle.drm_id_alloc.specs.Groups.{has}
use Rattle.drm_keys.specs.Keys.{rows_in, IsKeyed}
use Rattle.drm_masters.specs.declared.rows.Master.{Master}
use Rattle.drm_masters.specs.declared.table.MasterTable.TheInside.{Inside}
use Rattle.drm_masters.specs.Tables.{MasterRows, nothing, AreLesseesOf}
use Rattle.drm_masters.specs.Ids.{id_at, AreIdsOf}

-- the masters in the fields, in the order of step numbers
abbrev pub items_of : Inside → List Master
items_of a = rows_in nothing a.kept (map.entries a.keys.items)

-- the rows in the fields
abbrev pub rows_of : Inside → MasterRows
rows_of a = record { items = items_of a }

-- The records are found by their step numbers and keys. The step numbers are numbers of 32 bits. The lessees are found
-- by their lessors, and by their owners and ids.
pub record IsTable (a : Inside) : Type 0 where
  pub keyed : IsKeyed (λ (x : Master). x.key) (λ (x : Master). x.step_number) a.keys.items a.kept
  pub fits : AllByRecursion (λ (x : Master). x.step_number ≤ 4294967295) (items_of a)
  pub lessees : AreLesseesOf (items_of a) (has a.lessees)
  pub ids : AreIdsOf (items_of a) (id_at a.ids)

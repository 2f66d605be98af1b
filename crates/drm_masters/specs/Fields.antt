-- The masters that the fields represent (own).
use Rattle.std.specs.Prelude.{◌≡◌, ◌==◌, false}
use Rattle.drm_index_array.specs.Orders.{InOrder}
use Rattle.drm_masters.specs.declared.rows.Master.{Master}
use Rattle.drm_masters.specs.declared.masters.Masters.TheInside.{Inside}
use Rattle.drm_masters.specs.Masters.{MasterSet, AreMasters}

-- the set in the fields
abbrev pub set_of : Inside → MasterSet
set_of a = record {
  members = a.members.items;
  masters = a.masters.items;
  device_master = a.device_master;
  last_magic = a.last_magic;
  last_lessee = a.last_lessee;
}

-- no two masters have one key
pub record IsSound (a : Inside) : Type 0 where
  pub are : AreMasters (set_of a)
  pub keyed : InOrder (λ (x y : Master). (x.key == y.key) ≡ false) a.masters.items

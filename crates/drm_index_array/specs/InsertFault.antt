-- The value in a refused insertion (own).
use Rattle.drm_index_array.specs.declared.faults.InsertFault.{InsertFault}
use Rattle.drm_index_array.specs.declared.faults.InsertFault.TheVariants.{Taken, NoMemory}

-- the value that was not stored
abbrev pub value_of : {T : Type 0} → InsertFault T → T
value_of (Taken v) = v
value_of (NoMemory v) = v

-- whether the index has an entry already
abbrev pub IsTaken : {T : Type 0} → InsertFault T → Type 0
IsTaken (Taken v) = Unit {0}
IsTaken (NoMemory v) = ⊥

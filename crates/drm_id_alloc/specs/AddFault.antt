-- The value in a refused addition (own).
use Rattle.drm_id_alloc.specs.declared.faults.AddFault.{AddFault}
use Rattle.drm_id_alloc.specs.declared.faults.AddFault.TheVariants.{Full, NoMemory}

-- the value that was not added
abbrev pub value_of : {T : Type 0} → AddFault T → T
value_of (Full v) = v
value_of (NoMemory v) = v

-- whether the reason is that no number is free
abbrev pub IsFull : {T : Type 0} → AddFault T → Type 0
IsFull (Full v) = Unit {0}
IsFull (NoMemory v) = ⊥

-- The reasons a framebuffer was not created (own).
use Rattle.drm_modes.specs.declared.faults.AddFbFault.{AddFbFault}
use Rattle.drm_modes.specs.declared.faults.AddFbFault.TheVariants.{Full, NoMemory}

-- whether the reason is that no id is free
abbrev pub IsFull : AddFbFault → Type 0
IsFull Full = Unit {0}
IsFull NoMemory = ⊥

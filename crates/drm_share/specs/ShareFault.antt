-- The reasons nothing was allocated (own).
use Rattle.drm_share.specs.declared.faults.ShareFault.{ShareFault}
use Rattle.drm_share.specs.declared.faults.ShareFault.TheVariants.{Full, NoMemory}

-- whether the reason is that no number is free
abbrev pub IsFull : ShareFault → Type 0
IsFull Full = Unit {0}
IsFull NoMemory = ⊥

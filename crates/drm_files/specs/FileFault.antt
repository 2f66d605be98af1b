-- The reasons nothing was added (own).
use Rattle.drm_files.specs.declared.faults.FileFault.{FileFault}
use Rattle.drm_files.specs.declared.faults.FileFault.TheVariants.{Full, NoMemory}

-- whether the reason is that a limit is reached
abbrev pub IsFull : FileFault → Type 0
IsFull Full = Unit {0}
IsFull NoMemory = ⊥

-- The fault of a device that is served (own).
use Rattle.drm_commands.specs.declared.faults.Fault.{Fault}
use Rattle.drm_commands.specs.declared.faults.Fault.TheVariants.{Memory, Thread, Turn, Accept}
use Rattle.drm_listeners.specs.declared.serve_faults.ServeFault.{ServeFault}
use Rattle.drm_listeners.specs.declared.serve_faults.ServeFault.TheVariants as serving

-- the fault of the program if not all connections were served
abbrev pub fault_of_serving : ServeFault → Fault
fault_of_serving (serving.Accept class) = Accept class
fault_of_serving serving.NoThread = Thread
fault_of_serving serving.NoMemory = Memory
fault_of_serving serving.TurnOut = Turn

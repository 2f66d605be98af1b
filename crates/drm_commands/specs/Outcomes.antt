-- The outcome of the program, by the end of its script (own).
use Rattle.std.specs.Prelude.{ℕ, List, [], Option, None, Some, Result, Ok, Err, nat_lt, if◌then◌else◌}
use Rattle.std.specs.Option.{option_map_or}
use Rattle.drm_frames.specs.declared.turns.Written.{Written}
use Rattle.drm_frames.specs.declared.turns.Written.TheVariants as written
use Rattle.drm_runs.specs.declared.stops.ScriptEnd.{ScriptEnd}
use Rattle.drm_runs.specs.declared.stops.ScriptEnd.TheVariants as ends
use Rattle.drm_checks.specs.declared.totals.Totals.{Totals}
use Rattle.drm_commands.specs.declared.faults.Fault.{Fault}
use Rattle.drm_commands.specs.declared.faults.Fault.TheVariants as faults
use Rattle.drm_commands.specs.Faults.{fault_status, fault_line}

-- the fault that an end is, if it is one
abbrev pub fault_of : ScriptEnd → Option Fault
fault_of ends.Done = None
fault_of (ends.Malformed number) = Some (faults.ScriptLine number)
fault_of ends.ReadFault = Some faults.Read
fault_of ends.WriteFault = Some faults.Write
fault_of ends.TurnsUsed = Some faults.Turns
fault_of ends.NoMemory = Some faults.Memory

-- the fault of a text that was not written whole, or else nothing
abbrev pub fault_of_writing : Written → Result (Unit {0}) Fault
fault_of_writing written.Whole = Ok tt
fault_of_writing written.Fault = Err faults.Write
fault_of_writing written.TurnsUsed = Err faults.Turns

-- a fault, or else nothing
abbrev pub unless_fault : Option Fault → Result (Unit {0}) Fault
unless_fault None = Ok tt
unless_fault (Some fault) = Err fault

-- status 0 if there is no fault
abbrev pub status_by : Option Fault → ℕ
status_by fault = option_map_or fault_status fault 0

-- the line of a fault; empty if there is none
abbrev pub line_by : Option Fault → List ℕ
line_by fault = option_map_or fault_line fault []

-- 2 if a file is malformed, else 4 if an expectation is not met or a file has none, else 0
abbrev pub checks_status : Totals → ℕ
checks_status totals = if nat_lt 0 totals.malformed then 2 else (if nat_lt 0 totals.failed then 4 else 0)

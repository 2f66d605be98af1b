-- The line on standard error and the exit status of each fault (own).
use Rattle.std.specs.Prelude.{ℕ, List, ◌++◌, codes, decimal}
use Rattle.drm_traffic.specs.Classes.{class_word}
use Rattle.drm_commands.specs.declared.faults.Fault.{Fault}
use Rattle.drm_commands.specs.declared.faults.Fault.TheVariants.{ScriptLine, Read, Write, Turns, Memory, Thread, Turn, CommandLine, Listen, Control, Accept}

-- 1 for a fault outside, 2 for a malformed script, 3 for a refused command line
abbrev pub fault_status : Fault → ℕ
fault_status (ScriptLine number) = 2
fault_status Read = 1
fault_status Write = 1
fault_status Turns = 1
fault_status Memory = 1
fault_status Thread = 1
fault_status Turn = 1
fault_status CommandLine = 3
fault_status (Listen class) = 1
fault_status Control = 1
fault_status (Accept class) = 1

-- the words of a fault
abbrev pub fault_words : Fault → List ℕ
fault_words (ScriptLine number) = codes "script line " ++ decimal number
fault_words Read = codes "read"
fault_words Write = codes "write"
fault_words Turns = codes "turns"
fault_words Memory = codes "memory"
fault_words Thread = codes "thread"
fault_words Turn = codes "turn"
fault_words CommandLine = codes "command line"
fault_words (Listen class) = codes "listen " ++ class_word class
fault_words Control = codes "listen control"
fault_words (Accept class) = codes "accept " ++ class_word class

-- the line of a fault
abbrev pub fault_line : Fault → List ℕ
fault_line fault = codes "fault: " ++ fault_words fault

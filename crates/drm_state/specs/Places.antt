-- Answers that are written to a place (own).
use Rattle.std.specs.Prelude.{Result, Ok, Err}
use Rattle.std.specs.declared.alloc.AllocError.{AllocError}
use Rattle.drm_table.specs.declared.answers.Answer.{Answer}

-- what resulted from a call that writes its answer to a place, and leaves it alone if memory is refused
abbrev pub outcome : Result (Unit {0}) AllocError → Answer → Result Answer AllocError
outcome (Ok done) answer = Ok answer
outcome (Err fault) answer = Err fault

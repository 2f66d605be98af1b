-- The check of one line of a file (own).
use Rattle.std.specs.Prelude.{◌≡◌, ℕ, ◌+◌, List, [], ◌∷◌, length, Option, None, Some, Result}
use Rattle.drm_table.specs.declared.answers.Answer.{Answer}
use Rattle.drm_table.specs.declared.apart.Apart.{Apart}
use Rattle.drm_frames.specs.Streams.{SinkTrace}
use Rattle.drm_frames.specs.Texts.{WritesOut}
use Rattle.drm_frames.specs.declared.turns.Written.{Written}
use Rattle.drm_runs.specs.Script.{Setting, Uses, IsMisplaced, IsNowhere, WantsDevice}
use Rattle.drm_runs.specs.Interpreter.{at_start}
use Rattle.drm_runs.specs.LineSteps.{LinesState}
use Rattle.drm_runs.specs.Writing.{end_of_writing}
use Rattle.drm_runs.specs.declared.stops.ScriptEnd.{ScriptEnd}
use Rattle.drm_runs.specs.declared.stops.ScriptEnd.TheVariants as ends
use Rattle.drm_checks.specs.Expectations.{script_part, expected_part}
use Rattle.drm_checks.specs.Differences.{File, differences_text, met, unmet}
use Rattle.drm_checks.specs.declared.checker.Checker.{Checker}

-- a checker before the first line
abbrev pub first_checker : Setting → ℕ → Checker
first_checker setting turns = record { interpreter = at_start setting; passed = 0; failed = 0; turns = turns }

-- the results of a line, which has at most one answer
abbrev pub results_of : Option (Result Answer Apart) → List (Result Answer Apart)
results_of None = []
results_of (Some answer) = answer ∷ []

-- the expectation of a line was counted, and a difference written
pub record Notes (old new : Checker) (file : File) (number : ℕ) (expected : Option (List ℕ)) (came : Option (Result Answer Apart)) (sink sink' : SinkTrace) (end : Option ScriptEnd) : Type 0 where
  pub written : Written
  pub writes : WritesOut written sink sink' (differences_text file (unmet number expected came)) old.turns new.turns
  pub end_is : end ≡ end_of_writing written
  pub passed : new.passed ≡ old.passed + met expected came
  pub failed : new.failed ≡ old.failed + length (unmet number expected came)
  pub interpreter : new.interpreter ≡ old.interpreter

-- A line was used, its expectation counted, and a difference written.
pub record UsedLine (old new : Checker) (file : File) (lines : LinesState) (sink sink' : SinkTrace) (end : Option ScriptEnd) : Type 0 where
  pub came : Option (Result Answer Apart)
  pub uses : Uses old.interpreter.device old.interpreter.labels (script_part lines.held) (results_of came) new.interpreter.device new.interpreter.labels
  pub written : Written
  pub writes : WritesOut written sink sink' (differences_text file (unmet lines.number (expected_part lines.held) came)) old.turns new.turns
  pub end_is : end ≡ end_of_writing written
  pub passed : new.passed ≡ old.passed + met (expected_part lines.held) came
  pub failed : new.failed ≡ old.failed + length (unmet lines.number (expected_part lines.held) came)

-- A line could not be used: nothing was counted or written.
pub record Stands (old new : Checker) (sink sink' : SinkTrace) : Type 0 where
  pub unwritten : sink' ≡ sink
  pub turns : new.turns ≡ old.turns
  pub passed : new.passed ≡ old.passed
  pub failed : new.failed ≡ old.failed

-- the result of the check of one line
pub data ChecksLine (old new : Checker) (file : File) (lines : LinesState) (sink sink' : SinkTrace) : Option ScriptEnd → Type 0 where
  used : {end : Option ScriptEnd} → UsedLine old new file lines sink sink' end
      → ChecksLine old new file lines sink sink' end
  bad : IsMisplaced old.interpreter.device (script_part lines.held) → Stands old new sink sink'
      → ChecksLine old new file lines sink sink' (Some (ends.Malformed lines.number))
  unmade : IsNowhere old.interpreter.device → WantsDevice (script_part lines.held) → Stands old new sink sink'
      → ChecksLine old new file lines sink sink' (Some ends.NoMemory)

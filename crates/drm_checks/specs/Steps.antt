-- A check line by line (own).
use Rattle.std.specs.Prelude.{◌≡◌, ℕ, ◌+◌, ◌<◌, ◌≤◌, ◌^◌, List, Option, None, Some, length}
use Rattle.drm_frames.specs.Streams.{SourceTrace, SinkTrace}
use Rattle.drm_frames.specs.Turns.{Took}
use Rattle.drm_runs.specs.Script.{Setting}
use Rattle.drm_runs.specs.LineSteps.{LinesRead, fuel_of, no_lines}
use Rattle.drm_runs.specs.declared.stops.ScriptEnd.{ScriptEnd}
use Rattle.drm_checks.specs.Differences.{Difference, File, differences_text}
use Rattle.drm_checks.specs.Checker.{first_checker}
use Rattle.drm_checks.specs.Checks.{Checked, ChecksOn}
use Rattle.drm_checks.specs.declared.check.Check.{Check}
use Rattle.drm_checks.specs.declared.check.Report.{Report}

-- a check before the first line
abbrev pub first_check : Setting → ℕ → Check
first_check setting turns = record { lines = no_lines; checker = first_checker setting turns }

-- A check so far: each line that was read was used.
pub record SoFar (setting : Setting) (file : File) (source source' : SourceTrace) (sink sink' : SinkTrace) (turns : ℕ) (check : Check) : Type 0 where
  pub read : List ℕ
  pub lines : List (List ℕ)
  pub differences : List Difference
  pub has_read : LinesRead source source' check.lines read lines
  pub took : Took sink sink' (differences_text file differences)
  pub cost : source'.counts.calls + sink'.counts.calls + check.checker.turns ≡ source.counts.calls + sink.counts.calls + turns
  pub checked : Checked setting lines check.checker.passed differences check.checker.interpreter.device check.checker.interpreter.labels
  pub counted : check.checker.failed ≡ length differences

-- no count exceeds its type
pub record IsCountable (check : Check) (source : SourceTrace) (sink : SinkTrace) : Type 0 where
  pub number : check.lines.number + fuel_of check.lines check.checker.turns < 2 ^ 63
  pub passed : check.checker.passed ≤ check.lines.number
  pub failed : check.checker.failed ≤ check.lines.number
  pub source_calls : source.counts.calls + check.checker.turns < 2 ^ 48
  pub sink_calls : sink.counts.calls + check.checker.turns < 2 ^ 48

-- One more line was checked.
pub record GoesOn (file : File) (old new : Check) (source source' : SourceTrace) (sink sink' : SinkTrace) : Type 0 where
  pub so_far : (setting : Setting) (start : SourceTrace) (first : SinkTrace) (turns : ℕ)
      → SoFar setting file start source first sink turns old → SoFar setting file start source' first sink' turns new
  pub number : new.lines.number ≡ old.lines.number + 1
  pub passed : new.checker.passed ≤ old.checker.passed + 1
  pub failed : new.checker.failed ≤ old.checker.failed + 1
  pub source_calls : source'.counts.calls + new.checker.turns ≤ source.counts.calls + old.checker.turns
  pub sink_calls : sink'.counts.calls + new.checker.turns ≤ sink.counts.calls + old.checker.turns
  pub fuel : fuel_of new.lines new.checker.turns < fuel_of old.lines old.checker.turns

-- the report of a check that ended
abbrev pub report_of : Check → ScriptEnd → Report
report_of check end = record { end = end; passed = check.checker.passed; failed = check.checker.failed }

-- A check that had not ended continues, or has ended.
abbrev pub Advances : Check → Check → File → SourceTrace → SourceTrace → SinkTrace → SinkTrace → Option ScriptEnd
    → Type 0
Advances old new file source source' sink sink' None = GoesOn file old new source source' sink sink'
Advances old new file source source' sink sink' (Some end) =
    (setting : Setting) (start : SourceTrace) (first : SinkTrace) (turns : ℕ)
    → SoFar setting file start source first sink turns old
    → ChecksOn setting file start source' first sink' turns (report_of new end)

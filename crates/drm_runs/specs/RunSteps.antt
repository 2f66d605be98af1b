-- A run line by line (own).
use Rattle.std.specs.Prelude.{◌≡◌, ℕ, ◌+◌, ◌<◌, ◌≤◌, ◌^◌, List, Option, None, Some}
use Rattle.drm_frames.specs.Streams.{SourceTrace, SinkTrace}
use Rattle.drm_frames.specs.Turns.{Took}
use Rattle.drm_runs.specs.Script.{Setting, Script, script_text}
use Rattle.drm_runs.specs.Interpreter.{at_start}
use Rattle.drm_runs.specs.LineSteps.{LinesRead, fuel_of, no_lines}
use Rattle.drm_runs.specs.Runs.{Results, RunsOn}
use Rattle.drm_runs.specs.declared.run.Run.{Run}
use Rattle.drm_runs.specs.declared.stops.ScriptEnd.{ScriptEnd}

-- no line was used yet
abbrev pub at_first : Setting → ℕ → Run
at_first setting turns = record { lines = no_lines; interpreter = at_start setting; turns = turns }

-- A run so far: each line that was read was used.
pub record SoFar (setting : Setting) (source source' : SourceTrace) (sink sink' : SinkTrace) (turns : ℕ) (run : Run) : Type 0 where
  pub read : List ℕ
  pub lines : List (List ℕ)
  pub results : Results
  pub has_read : LinesRead source source' run.lines read lines
  pub took : Took sink sink' (script_text results)
  pub cost : source'.counts.calls + sink'.counts.calls + run.turns ≡ source.counts.calls + sink.counts.calls + turns
  pub script : Script setting lines results run.interpreter.device run.interpreter.labels

-- no count exceeds its type
pub record IsCountable (run : Run) (source : SourceTrace) (sink : SinkTrace) : Type 0 where
  pub number : run.lines.number + fuel_of run.lines run.turns < 2 ^ 63
  pub source_calls : source.counts.calls + run.turns < 2 ^ 48
  pub sink_calls : sink.counts.calls + run.turns < 2 ^ 48

-- One more line was used.
pub record GoesOn (old new : Run) (source source' : SourceTrace) (sink sink' : SinkTrace) : Type 0 where
  pub so_far : (setting : Setting) (start : SourceTrace) (first : SinkTrace) (turns : ℕ)
      → SoFar setting start source first sink turns old → SoFar setting start source' first sink' turns new
  pub number : new.lines.number ≡ old.lines.number + 1
  pub source_calls : source'.counts.calls + new.turns ≤ source.counts.calls + old.turns
  pub sink_calls : sink'.counts.calls + new.turns ≤ sink.counts.calls + old.turns
  pub fuel : fuel_of new.lines new.turns < fuel_of old.lines old.turns

-- A run that had not ended continues, or has ended.
abbrev pub Advances : Run → Run → SourceTrace → SourceTrace → SinkTrace → SinkTrace → Option ScriptEnd → Type 0
Advances old new source source' sink sink' None = GoesOn old new source source' sink sink'
Advances old new source source' sink sink' (Some end) =
    (setting : Setting) (start : SourceTrace) (first : SinkTrace) (turns : ℕ)
    → SoFar setting start source first sink turns old
    → RunsOn setting start source' first sink' turns end new.interpreter.device new.interpreter.labels

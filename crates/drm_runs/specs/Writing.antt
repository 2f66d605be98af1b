-- One line of a run: its answer, and the text that is written for it (own).
use Rattle.std.specs.Prelude.{◌≡◌, ℕ, ◌<◌, List, [], ◌∷◌, Option, None, Some, Result}
use Rattle.drm_table.specs.declared.answers.Answer.{Answer}
use Rattle.drm_table.specs.declared.apart.Apart.{Apart}
use Rattle.drm_frames.specs.Streams.{SinkTrace}
use Rattle.drm_frames.specs.Turns.{WriteCost, PartialWriteCost}
use Rattle.drm_frames.specs.declared.turns.Written.{Written}
use Rattle.drm_frames.specs.declared.turns.Written.TheVariants as written
use Rattle.drm_script.specs.Lines.{answer_line}
use Rattle.drm_runs.specs.Script.{Uses, IsMisplaced, IsNowhere, WantsDevice, script_text}
use Rattle.drm_runs.specs.Interpreter.{InterpreterState}
use Rattle.drm_runs.specs.LineSteps.{LinesState}
use Rattle.drm_runs.specs.declared.stops.ScriptEnd.{ScriptEnd}
use Rattle.drm_runs.specs.declared.stops.ScriptEnd.TheVariants as ends

-- the end of a script if a text was not written whole
abbrev pub end_of_writing : Written → Option ScriptEnd
end_of_writing written.Whole = None
end_of_writing written.Fault = Some ends.WriteFault
end_of_writing written.TurnsUsed = Some ends.TurnsUsed

-- the result of the line that is held: it was used and its results written, or a front of its answer, or the state is
-- unchanged
abbrev pub UsesLine : InterpreterState → InterpreterState → LinesState → SinkTrace → SinkTrace → ℕ → ℕ
    → Option ScriptEnd → Type 0
UsesLine old new lines before after had has None =
    (results : List (Result Answer Apart)) × Uses old.device old.labels lines.held results new.device new.labels × WriteCost before after (script_text results) had has
UsesLine old new lines before after had has (Some ends.WriteFault) =
    (result : Result Answer Apart) × Uses old.device old.labels lines.held (result ∷ []) new.device new.labels
    × PartialWriteCost before after (answer_line result) had has × (before.counts.faults < after.counts.faults)
UsesLine old new lines before after had has (Some ends.TurnsUsed) =
    (result : Result Answer Apart) × Uses old.device old.labels lines.held (result ∷ []) new.device new.labels
    × PartialWriteCost before after (answer_line result) had has × (has ≡ 0)
UsesLine old new lines before after had has (Some (ends.Malformed number)) =
    (number ≡ lines.number) × IsMisplaced old.device lines.held × (after ≡ before) × (has ≡ had) × (new ≡ old)
UsesLine old new lines before after had has (Some ends.NoMemory) =
    IsNowhere old.device × WantsDevice lines.held × (after ≡ before) × (has ≡ had) × IsNowhere new.device ×
    (new.labels ≡ old.labels)
UsesLine old new lines before after had has (Some ends.Done) = ⊥
UsesLine old new lines before after had has (Some ends.ReadFault) = ⊥

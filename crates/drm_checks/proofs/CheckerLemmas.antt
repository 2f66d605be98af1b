-- A line that was used, from what the code made of it.
use Rattle.std.proofs.Common.{◌≡◌, ℕ, ◌+◌, ◌∙◌, List, length, sym, ap, subst, Option, Some, Result}
use Rattle.drm_table.specs.declared.answers.Answer.{Answer}
use Rattle.drm_table.specs.declared.apart.Apart.{Apart}
use Rattle.drm_frames.specs.Streams.{SinkTrace}
use Rattle.drm_frames.specs.Texts.{WritesOut}
use Rattle.drm_runs.specs.Script.{Uses, IsMisplaced, IsNowhere, WantsDevice}
use Rattle.drm_runs.specs.Interpreter.{InterpreterState}
use Rattle.drm_runs.specs.LineSteps.{LinesState}
use Rattle.drm_runs.specs.declared.stops.ScriptEnd.{ScriptEnd}
use Rattle.drm_runs.specs.declared.stops.ScriptEnd.TheVariants as ends
use Rattle.drm_checks.specs.Expectations.{script_part, expected_part}
use Rattle.drm_checks.specs.Differences.{File, met, unmet, differences_text}
use Rattle.drm_checks.specs.Checker.{Notes, Stands, ChecksLine, results_of}
use Rattle.drm_checks.specs.Checker.ChecksLine.{used, bad, unmade}
use Rattle.drm_checks.specs.declared.checker.Checker.{Checker}

-- the checker once a line was interpreted, and before what it expects is noted
abbrev pub interpreted : Checker → InterpreterState → Checker
interpreted old interpreter =
    record { interpreter = interpreter; passed = old.passed; failed = old.failed; turns = old.turns }

-- A line that was used is checked: its answer meets the expectation or adds a difference.
pub used_line : (old new : Checker) (after : InterpreterState) (file : File) (lines : LinesState) (script : List ℕ) (expected : Option (List ℕ)) (came : Option (Result Answer Apart)) (sink sink' : SinkTrace) (end : Option ScriptEnd)
    → script ≡ script_part lines.held → expected ≡ expected_part lines.held
    → Uses old.interpreter.device old.interpreter.labels script (results_of came) after.device after.labels
    → Notes (interpreted old after) new file lines.number expected came sink sink' end
    → ChecksLine old new file lines sink sink' end
used_line old new after file lines script expected came sink sink' end s e u n =
    used (record {
      came = came;
      uses =
          subst
          (λ (i : InterpreterState). Uses old.interpreter.device old.interpreter.labels (script_part lines.held) (results_of came) i.device i.labels)
          (sym n.interpreter)
          (subst (λ (l : List ℕ). Uses old.interpreter.device old.interpreter.labels l (results_of came) after.device after.labels) s u);
      written = n.written;
      writes =
          subst
          (λ (x : Option (List ℕ)). WritesOut n.written sink sink' (differences_text file (unmet lines.number x came)) old.turns new.turns)
          e n.writes;
      end_is = n.end_is;
      passed = n.passed ∙ ap (λ (x : Option (List ℕ)). old.passed + met x came) e;
      failed = n.failed ∙ ap (λ (x : Option (List ℕ)). old.failed + length (unmet lines.number x came)) e;
    })

-- A line out of place ends the check as malformed.
pub bad_line : {old new : Checker} {file : File} {lines : LinesState} {sink sink' : SinkTrace} {end : ScriptEnd}
    → end ≡ ends.Malformed lines.number → IsMisplaced old.interpreter.device (script_part lines.held)
    → Stands old new sink sink' → ChecksLine old new file lines sink sink' (Some end)
bad_line {old} {new} {file} {lines} {sink} {sink'} same m s =
    subst (λ (e : ScriptEnd). ChecksLine old new file lines sink sink' (Some e)) (sym same) (bad m s)

-- A line that requires a device ends the check when there is no memory to make one.
pub unmade_line : {old new : Checker} {file : File} {lines : LinesState} {sink sink' : SinkTrace} {end : ScriptEnd}
    → end ≡ ends.NoMemory → IsNowhere old.interpreter.device → WantsDevice (script_part lines.held)
    → Stands old new sink sink' → ChecksLine old new file lines sink sink' (Some end)
unmade_line {old} {new} {file} {lines} {sink} {sink'} same none wants s =
    subst (λ (e : ScriptEnd). ChecksLine old new file lines sink sink' (Some e)) (sym same) (unmade none wants s)

-- The line that is checked is the one that is held, with its number.
pub as_held : {old new : Checker} {file : File} {sink sink' : SinkTrace} {end : Option ScriptEnd} (lines : LinesState) (line : List ℕ) (number : ℕ)
    → line ≡ lines.held → number ≡ lines.number
    → ChecksLine old new file (record lines { held = line; number = number }) sink sink' end
    → ChecksLine old new file lines sink sink' end
as_held {old} {new} {file} {sink} {sink'} {end} lines line number e d c =
    subst (λ (l : List ℕ). ChecksLine old new file (record lines { held = l }) sink sink' end) e
    (subst (λ (n : ℕ). ChecksLine old new file (record lines { held = line; number = n }) sink sink' end) d c)

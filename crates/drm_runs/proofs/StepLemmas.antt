-- A run goes on by a line, or ends with it.
use Rattle.std.proofs.Common.{◌≡◌, ℕ, List, [], ◌∷◌, refl, sym, subst, arith, Some, None, Option, Result, append-nil}
use Rattle.drm_table.specs.declared.answers.Answer.{Answer}
use Rattle.drm_table.specs.declared.apart.Apart.{Apart}
use Rattle.drm_script.specs.Lines.{answer_line}
use Rattle.drm_frames.specs.Streams.{SourceTrace, SinkTrace}
use Rattle.drm_frames.specs.Turns.{Writes, WriteCost}
use Rattle.drm_frames.specs.declared.turns.Written.{Written}
use Rattle.drm_frames.specs.declared.turns.Written.TheVariants as written
use Rattle.drm_frames.proofs.Traces.{Took-none, WriteCost-none}
use Rattle.drm_runs.specs.Script.{Setting, Uses, IsMisplaced, IsNowhere, WantsDevice}
use Rattle.drm_runs.specs.Script.Script.{start as script_start}
use Rattle.drm_runs.specs.Interpreter.{InterpreterState}
use Rattle.drm_runs.specs.LineSteps.{LinesState, ReadsNext}
use Rattle.drm_runs.specs.Writing.{UsesLine, end_of_writing}
use Rattle.drm_runs.specs.RunSteps.{SoFar, GoesOn, Advances, at_first}
use Rattle.drm_runs.specs.declared.run.Run.{Run}
use Rattle.drm_runs.specs.declared.stops.ScriptEnd.{ScriptEnd}
use Rattle.drm_runs.specs.declared.stops.ScriptEnd.TheVariants as ends
use Rattle.drm_runs.proofs.LineStepLemmas.{no_lines_read}
use Rattle.drm_runs.proofs.RunLemmas.{run_ends, run_stop, so_far_used}

-- A run that begins has used no line.
pub first_so_far : (setting : Setting) (run : Run) (source : SourceTrace) (sink : SinkTrace) (turns : ℕ)
    → run ≡ at_first setting turns → SoFar setting source source sink sink turns run
first_so_far setting run source sink turns e =
    subst (SoFar setting source source sink sink turns) (sym e)
    (record { read = []; lines = []; results = []; has_read = no_lines_read source; took = Took-none sink; cost = refl; script = script_start })

module _ (old : Run) (lines : LinesState) (source source' : SourceTrace) (sink : SinkTrace) (has : ℕ) where
  -- A run ends when no further line is read, with its interpreter unchanged.
  pub advances_end : (end : ScriptEnd) → ReadsNext old.lines lines source source' old.turns has (Some end)
      → Advances old (record { lines = lines; interpreter = old.interpreter; turns = has }) source source' sink sink (Some end)
  advances_end end r setting start first turns so =
      let all = r.reaches start so.read so.lines so.has_read in
      run_ends turns has old.interpreter all.1.given so.took (let a = r.cost in let b = so.cost in omega (arith, a, b))
      so.script end all.1.why

  module _ (r : ReadsNext old.lines lines source source' old.turns has None) (interpreter : InterpreterState) (sink' : SinkTrace) (has' : ℕ) where
    goes_on : UsesLine old.interpreter interpreter lines sink sink' has has' None
        → GoesOn old (record { lines = lines; interpreter = interpreter; turns = has' }) source source' sink sink'
    goes_on u =
        let counted = r.onward refl in
        let spent = r.cost in
        let cost = u.2.cost in
        let calls = u.2.took.counts.calls in record {
          so_far =
              λ (setting : Setting) (start : SourceTrace) (first : SinkTrace) (turns : ℕ)
              (so : SoFar setting start source first sink turns old).
              let all = r.reaches start so.read so.lines so.has_read in
              so_far_used turns has old.interpreter all.1.so_far.given so.took
              (let b = so.cost in omega (arith, spent, b)) so.script all.1 interpreter sink' has' u;
          number = counted.0;
          source_calls = omega (arith, spent, cost, calls);
          sink_calls = (let fewer = r.at_most in omega (arith, cost, fewer));
          fuel = (let fuel = counted.1 in omega (arith, fuel, cost, calls));
        }

    -- A run that read and used one more line advances by it.
    pub advances_used : (end : Option ScriptEnd) → UsesLine old.interpreter interpreter lines sink sink' has has' end
        → Advances old (record { lines = lines; interpreter = interpreter; turns = has' }) source source' sink sink' end
    advances_used None u = goes_on u
    advances_used (Some end) u =
        λ (setting : Setting) (start : SourceTrace) (first : SinkTrace) (turns : ℕ)
        (so : SoFar setting start source first sink turns old).
        let all = r.reaches start so.read so.lines so.has_read in
        run_stop turns has old.interpreter all.1.so_far.given so.took
        (let a = r.cost in let b = so.cost in omega (arith, a, b)) so.script all.1 interpreter sink' has' end u

-- what came of a line, from what it was interpreted as
module _ (old new : InterpreterState) (lines : LinesState) (line : List ℕ) (held : line ≡ lines.held) where
  written_uses : (r : Result Answer Apart) (sink sink' : SinkTrace) (had has : ℕ) (w : Written)
      → Uses old.device old.labels lines.held (r ∷ []) new.device new.labels
      → Writes w sink sink' (answer_line r) had has → UsesLine old new lines sink sink' had has (end_of_writing w)
  written_uses r sink sink' had has written.Whole u p =
      (r ∷ [], u, subst (λ t. WriteCost sink sink' t had has) (sym (append-nil (answer_line r))) p.0)
  written_uses r sink sink' had has written.Fault u p = (r, u, p.0, p.1)
  written_uses r sink sink' had has written.TurnsUsed u p = (r, u, p.0, p.1)

  -- A line with an answer is used, and its answer is written as far as the sink took it.
  pub answered_uses : (r : Result Answer Apart) (sink sink' : SinkTrace) (had has : ℕ) (w : Written) (end : Option ScriptEnd)
      → end ≡ end_of_writing w
      → Uses old.device old.labels line (r ∷ []) new.device new.labels → Writes w sink sink' (answer_line r) had has
      → UsesLine old new lines sink sink' had has end
  answered_uses r sink sink' had has w end e u p =
      subst (UsesLine old new lines sink sink' had has) (sym e)
      (written_uses r sink sink' had has w (subst (λ (l : List ℕ). Uses old.device old.labels l (r ∷ []) new.device new.labels) held u) p)

  module _ (sink : SinkTrace) (had : ℕ) where
    -- A line without an answer is used and writes nothing.
    pub unanswered_uses : Uses old.device old.labels line [] new.device new.labels
        → UsesLine old new lines sink sink had had None
    unanswered_uses u =
        ([], subst (λ (l : List ℕ). Uses old.device old.labels l [] new.device new.labels) held u, WriteCost-none sink had)

    -- A line out of place ends the script as malformed, and the state is unchanged.
    pub malformed_uses : (end : ScriptEnd) → end ≡ ends.Malformed lines.number → IsMisplaced old.device line → new ≡ old
        → UsesLine old new lines sink sink had had (Some end)
    malformed_uses end e m same =
        subst (λ (x : ScriptEnd). UsesLine old new lines sink sink had had (Some x)) (sym e)
        (refl, subst (IsMisplaced old.device) held m, refl, refl, same)

    -- A line that requires a device ends the script when there is no memory to make one.
    pub unmade_uses : (end : ScriptEnd) → end ≡ ends.NoMemory → IsNowhere old.device → WantsDevice line
        → IsNowhere new.device → new.labels ≡ old.labels → UsesLine old new lines sink sink had had (Some end)
    unmade_uses end e none wants nowhere labels =
        subst (λ (x : ScriptEnd). UsesLine old new lines sink sink had had (Some x)) (sym e)
        (none, subst WantsDevice held wants, refl, refl, nowhere, labels)

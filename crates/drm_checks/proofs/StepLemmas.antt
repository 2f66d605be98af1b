-- A check goes on by a line, or ends with it.
use Rattle.std.proofs.Common.{◌≡◌, ℕ, List, [], refl, sym, subst, arith, Some, None, Option}
use Rattle.drm_frames.specs.Streams.{SourceTrace, SinkTrace}
use Rattle.drm_frames.specs.Turns.{WriteCost}
use Rattle.drm_frames.specs.Texts.{WritesOut}
use Rattle.drm_frames.specs.declared.turns.Written.{Written}
use Rattle.drm_frames.specs.declared.turns.Written.TheVariants as written
use Rattle.drm_frames.proofs.Traces.{Took-none}
use Rattle.drm_runs.specs.Script.{Setting}
use Rattle.drm_runs.specs.LineSteps.{LinesState, ReadsNext}
use Rattle.drm_runs.specs.Writing.{end_of_writing}
use Rattle.drm_runs.specs.declared.stops.ScriptEnd.{ScriptEnd}
use Rattle.drm_runs.proofs.LineStepLemmas.{no_lines_read}
use Rattle.drm_checks.specs.Expectations.{expected_part}
use Rattle.drm_checks.specs.Differences.{File, differences_text, unmet}
use Rattle.drm_checks.specs.Checker.{UsedLine, ChecksLine}
use Rattle.drm_checks.specs.Checker.ChecksLine.{used}
use Rattle.drm_checks.specs.Checks.{ChecksOn}
use Rattle.drm_checks.specs.Checks.Checked.{start as checked_start}
use Rattle.drm_checks.specs.Steps.{SoFar, GoesOn, Advances, first_check}
use Rattle.drm_checks.specs.declared.checker.Checker.{Checker}
use Rattle.drm_checks.specs.declared.check.Check.{Check}
use Rattle.drm_checks.proofs.CheckLemmas.{report_with, one_at_most, check_ends, so_far_used, stopped}

-- the checker once a line is read, and before it is checked
abbrev pub with_turns : Checker → ℕ → Checker
with_turns old has = record { interpreter = old.interpreter; passed = old.passed; failed = old.failed; turns = has }

-- A check that begins has checked no line.
pub first_so_far : (setting : Setting) (file : File) (check : Check) (source : SourceTrace) (sink : SinkTrace) (turns : ℕ)
    → check ≡ first_check setting turns → SoFar setting file source source sink sink turns check
first_so_far setting file check source sink turns e =
    subst (SoFar setting file source source sink sink turns) (sym e)
    (record { read = []; lines = []; differences = []; has_read = no_lines_read source; took = Took-none sink; cost = refl; checked = checked_start; counted = refl })

pays_of : (w : Written) (k k' : SinkTrace) (text : List ℕ) (had has : ℕ) → WritesOut w k k' text had has
    → None ≡ end_of_writing w → WriteCost k k' text had has
pays_of written.Whole k k' text had has w h = w
pays_of written.Fault k k' text had has w h = absurd (cc)
pays_of written.TurnsUsed k k' text had has w h = absurd (cc)

-- a line that lets the check go on
wholly : (old new : Checker) (file : File) (lines : LinesState) (k k' : SinkTrace)
    → ChecksLine old new file lines k k' None
    → (u : UsedLine old new file lines k k' None) × WriteCost k k' (differences_text file (unmet lines.number (expected_part lines.held) u.came)) old.turns new.turns
wholly old new file lines k k' (used u) = (u, pays_of u.written k k' _ _ _ u.writes u.end_is)

module _ (file : File) (old : Check) (lines : LinesState) (source source' : SourceTrace) (sink : SinkTrace) (has : ℕ) where
  -- A check ends when no further line is read.
  pub advances_end : (end : ScriptEnd) → ReadsNext old.lines lines source source' old.checker.turns has (Some end)
      → Advances old (record { lines = lines; checker = with_turns old.checker has }) file source source' sink sink (Some end)
  advances_end end r setting start first turns so =
      let all = r.reaches start so.read so.lines so.has_read in
      check_ends file turns (with_turns old.checker has) all.1.given so.took
      (let a = r.cost in let b = so.cost in omega (arith, a, b)) so.checked so.counted end all.1.why

  module _ (r : ReadsNext old.lines lines source source' old.checker.turns has None) (new : Checker) (sink' : SinkTrace) where
    goes_on : ChecksLine (with_turns old.checker has) new file lines sink sink' None
        → GoesOn file old (record { lines = lines; checker = new }) source source' sink sink'
    goes_on c =
        let w = wholly (with_turns old.checker has) new file lines sink sink' c in
        let u = w.0 in
        let cost = w.1.cost in
        let calls = w.1.took.counts.calls in
        let spent = r.cost in
        let counted = r.onward refl in
        let one = one_at_most lines.number (expected_part lines.held) u.came in record {
          so_far =
              λ (setting : Setting) (start : SourceTrace) (first : SinkTrace) (turns : ℕ)
              (so : SoFar setting file start source first sink turns old).
              let all = r.reaches start so.read so.lines so.has_read in
              so_far_used file turns (with_turns old.checker has) all.1.so_far.given so.took
              (let b = so.cost in omega (arith, spent, b)) so.checked so.counted all.1 new sink' u w.1;
          number = counted.0;
          passed = omega (arith, one, u.passed);
          failed = omega (arith, one, u.failed);
          source_calls = omega (arith, spent, cost, calls);
          sink_calls = (let fewer = r.at_most in omega (arith, cost, fewer));
          fuel = (let fuel = counted.1 in omega (arith, fuel, cost, calls));
        }

    -- A check that read and checked one more line advances by it.
    pub advances_used : (end : Option ScriptEnd) → ChecksLine (with_turns old.checker has) new file lines sink sink' end
        → Advances old (record { lines = lines; checker = new }) file source source' sink sink' end
    advances_used None c = goes_on c
    advances_used (Some end) c =
        λ (setting : Setting) (start : SourceTrace) (first : SinkTrace) (turns : ℕ)
        (so : SoFar setting file start source first sink turns old).
        let all = r.reaches start so.read so.lines so.has_read in
        stopped file turns (with_turns old.checker has) all.1.so_far.given so.took
        (let a = r.cost in let b = so.cost in omega (arith, a, b)) so.checked so.counted all.1 new sink' end c

-- A check of a file ends the same under an equal name and end.
pub ends_as : {setting : Setting} {file named : File} {s0 s : SourceTrace} {k0 k : SinkTrace} {turns passed failed : ℕ} {told end : ScriptEnd}
    → told ≡ end → named ≡ file
    → ChecksOn setting named s0 s k0 k turns (report_with end passed failed)
    → ChecksOn setting file s0 s k0 k turns (report_with told passed failed)
ends_as {setting} {file} {named} {s0} {s} {k0} {k} {turns} {passed} {failed} {told} {end} same files c =
    subst (λ (x : ScriptEnd). ChecksOn setting file s0 s k0 k turns (report_with x passed failed)) (sym same)
    (subst (λ (f : File). ChecksOn setting f s0 s k0 k turns (report_with end passed failed)) files c)

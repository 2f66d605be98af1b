-- A run of a script, line by line.
use Rattle.std.proofs.Common.{◌≡◌, ℕ, ◌+◌, ◌<◌, List, [], ◌∷◌, ◌++◌, refl, sym, ap, subst, ◌∙◌, arith, Some, None, Result, append_assoc, inl, inr}
use Rattle.std.proofs.lemmas.List.{length_push}
use Rattle.drm_table.specs.declared.answers.Answer.{Answer}
use Rattle.drm_table.specs.declared.apart.Apart.{Apart}
use Rattle.drm_script.specs.Lines.{answer_line}
use Rattle.drm_script.proofs.ReadingLaws.{reading_of-long}
use Rattle.drm_frames.specs.Streams.{SourceTrace, SinkTrace}
use Rattle.drm_frames.specs.Turns.{Took, PartialWriteCost}
use Rattle.drm_frames.proofs.Traces.{Took-then}
use Rattle.drm_runs.specs.Lines.{joined}
use Rattle.drm_runs.specs.Script.{Setting, Place, Script, Uses, IsNowhere, script_text}
use Rattle.drm_runs.specs.Script.Place.{Planned}
use Rattle.drm_runs.specs.Script.Script.{start, line}
use Rattle.drm_runs.specs.Script.Uses.{skipped, limited, asked}
use Rattle.drm_runs.specs.Script.IsMisplaced.{malformed}
use Rattle.drm_runs.specs.Interpreter.{InterpreterState}
use Rattle.drm_runs.specs.LineSteps.{LinesState, IsGiven, IsPart, HoldsNext, IsEndOfLines}
use Rattle.drm_runs.specs.Writing.{UsesLine}
use Rattle.drm_runs.specs.Runs.{Results, Ends, RunsOn, IsStopped, IsCutShort}
use Rattle.drm_runs.specs.RunSteps.{SoFar}
use Rattle.drm_runs.specs.declared.stops.ScriptEnd.{ScriptEnd}
use Rattle.drm_runs.specs.declared.stops.ScriptEnd.TheVariants as ends
use Rattle.drm_runs.proofs.LineStepLemmas.{covers_lines}

-- The text of two lists of results is the text of each, one after the other.
pub script_text-append : (xs ys : Results) → script_text (xs ++ ys) ≡ script_text xs ++ script_text ys
script_text-append [] ys = refl
script_text-append (x ∷ xs) ys =
    ap (λ z. answer_line x ++ z) (script_text-append xs ys)
    ∙ sym (append_assoc (answer_line x) (script_text xs) (script_text ys))

-- Before the device is made a script has no result.
pub unmade : {setting : Setting} {lines : List (List ℕ)} {results : Results} {device : Place} {labels : List ℕ}
    → Script setting lines results device labels → IsNowhere device
    → (results ≡ []) × (device ≡ Planned setting)
unmade start e = (refl, refl)
unmade (line s b (skipped h)) e = let u = unmade s e in (ap (λ r. r ++ []) u.0, u.1)
unmade (line s b (limited n h)) e = absurd e
unmade (line s b (asked w h i t)) e = absurd e

module _ {setting : Setting} {s0 s : SourceTrace} {k0 k : SinkTrace} {read : List ℕ} {lines : List (List ℕ)} {results : Results} (turns has : ℕ) (old : InterpreterState)
    (given : IsGiven s0 s read) (took : Took k0 k (script_text results)) (cost : s.counts.calls + k.counts.calls + has ≡ s0.counts.calls + k0.counts.calls + turns)
    (script : Script setting lines results old.device old.labels) where
  ran : (device : Place) (labels : List ℕ) (end : ScriptEnd)
      → Ends setting end s0 s k0 k turns read (script_text results) device labels
      → RunsOn setting s0 s k0 k turns end device labels
  ran device labels end h = record {
    read = read;
    written = script_text results;
    gave = given.gave;
    took = took;
    chunks = given.chunks;
    turns_at_most = omega (arith, cost);
    ends = h;
  }

  cut_short : (rest : List ℕ) → read ≡ joined lines ++ rest → IsPart rest
      → IsCutShort setting read (script_text results) old.device old.labels
  cut_short rest whole part =
      record
      { lines = lines; results = results; rest = rest; script = script; whole = whole; bare = part.0; short = part.1; text = refl }

  -- A run without a further line ends with its device and labels so far.
  pub run_ends : (end : ScriptEnd) → IsEndOfLines end s0 s has read lines
      → RunsOn setting s0 s k0 k turns end old.device old.labels
  run_ends ends.Done h =
      ran old.device old.labels ends.Done
      (record { lines = lines; results = results; script = script; covers = h.0; text = refl }, h.1)
  run_ends (ends.Malformed number) h =
      let t = h.5 in
      ran old.device old.labels (ends.Malformed number) (record {
        lines = lines;
        results = results;
        bad = h.3;
        rest = h.4;
        script = script;
        whole = h.2 ∙ ap (λ z. joined lines ++ z) t.whole;
        misplaced = malformed (reading_of-long h.3 (omega (arith, t.long)));
        bare = t.bare;
        until = inr t.long;
        short = omega (arith, t.long);
        behind = omega (arith, t.behind);
        counted = h.0;
        text = refl;
      })
  run_ends ends.ReadFault h = ran old.device old.labels ends.ReadFault (cut_short h.0 h.1 h.2, h.3)
  run_ends ends.TurnsUsed h =
      ran old.device old.labels ends.TurnsUsed (inl (cut_short h.0 h.1 h.2), omega (arith, cost, h.3))
  run_ends ends.WriteFault h = absurd h
  run_ends ends.NoMemory h = absurd h

  -- a line is held that was not used
  module _ {state : LinesState} (h : HoldsNext s0 s state read lines) (new : InterpreterState) (k' : SinkTrace) (has' : ℕ) where
    stopped : (result : Result Answer Apart) → Uses old.device old.labels state.held (result ∷ []) new.device new.labels
        → (p : PartialWriteCost k k' (answer_line result) has has')
        → IsStopped setting (s0.counts.ends < s.counts.ends) read (script_text results ++ p.front) new.device new.labels
    stopped result u p = record {
      lines = lines ++ state.held ∷ [];
      results = results ++ result ∷ [];
      rest = state.pending;
      script = line script h.bare u;
      covers = covers_lines state.is_last h.so_far.are_lines;
      behind = h.short_pending;
      cut =
          record
          { before = results; last = result; sent = p.front; unsent = p.rest; whole = refl; parts = p.parts; more = p.more; text = refl };
    }

    -- If a line stops the run, the run ends there, with what the line left.
    pub run_stop : (end : ScriptEnd) → UsesLine old new state k k' has has' (Some end)
        → RunsOn setting s0 s k0 k' turns end new.device new.labels
    run_stop ends.Done u = absurd u
    run_stop ends.ReadFault u = absurd u
    run_stop (ends.Malformed number) u =
        let P : InterpreterState → Type 0 =
        λ z. RunsOn setting s0 s k0 k' turns (ends.Malformed number) z.device z.labels in
        subst P (sym u.4)
        (subst (λ q. RunsOn setting s0 s k0 q turns (ends.Malformed number) old.device old.labels) (sym u.2)
        (ran old.device old.labels (ends.Malformed number) (record {
          lines = lines;
          results = results;
          bad = state.held;
          rest = h.behind;
          script = script;
          whole = h.whole;
          misplaced = u.1;
          bare = h.bare;
          until = inl h.until;
          short = omega (arith, h.short);
          behind = h.short_behind;
          counted = u.0 ∙ h.so_far.number ∙ length_push lines state.held;
          text = refl;
        })))
    run_stop ends.WriteFault u = record {
      read = read;
      written = script_text results ++ u.2.front;
      gave = given.gave;
      took = Took-then took u.2.pays.took;
      chunks = given.chunks;
      turns_at_most = (let a = u.2.pays.cost in omega (arith, a, cost));
      ends = (stopped u.0 u.1 u.2, (let a = took.counts.faults in omega (arith, a, u.3)));
    }
    run_stop ends.TurnsUsed u = record {
      read = read;
      written = script_text results ++ u.2.front;
      gave = given.gave;
      took = Took-then took u.2.pays.took;
      chunks = given.chunks;
      turns_at_most = (let a = u.2.pays.cost in omega (arith, a, cost));
      ends = (inr (stopped u.0 u.1 u.2), (let a = u.2.pays.cost in omega (arith, a, cost, u.3)));
    }
    run_stop ends.NoMemory u =
        let nothing = unmade script u.0 in
        subst (λ z. RunsOn setting s0 s k0 k' turns ends.NoMemory new.device z) (sym u.5)
        (subst (λ q. RunsOn setting s0 s k0 q turns ends.NoMemory new.device old.labels) (sym u.2)
        (ran new.device old.labels ends.NoMemory (record {
          lines = lines;
          next = state.held;
          rest = h.behind;
          script =
              subst (λ d. Script setting lines [] d old.labels) nothing.1
              (subst (λ r. Script setting lines r old.device old.labels) nothing.0 script);
          whole = h.whole;
          bare = h.bare;
          until = h.until;
          behind = h.short_behind;
          wants = u.1;
          none = u.4;
          nothing = ap script_text nothing.0;
        })))

    -- After one more line was used, each line so far was used.
    pub so_far_used : UsesLine old new state k k' has has' None
        → SoFar setting s0 s k0 k' turns (record { lines = state; interpreter = new; turns = has' })
    so_far_used u = record {
      read = read;
      lines = lines ++ state.held ∷ [];
      results = results ++ u.0;
      has_read = h.so_far;
      took = subst (Took k0 k') (sym (script_text-append results u.0)) (Took-then took u.2.took);
      cost = (let a = u.2.cost in omega (arith, a, cost));
      script = line script h.bare u.1;
    }

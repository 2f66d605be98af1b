-- A check, line by line.
use Rattle.std.proofs.Common.{◌≡◌, ℕ, ◌+◌, ◌≤◌, ◌<◌, List, [], ◌∷◌, ◌++◌, length, refl, sym, ap, subst, ◌∙◌, arith, Some, None, Option, Result, append-nil, length-append, inl, inr, Bool, true, false, if◌then◌else◌}
use Rattle.std.proofs.lemmas.Grind.{flat_map-append}
use Rattle.std.proofs.lemmas.List.{length_push}
use Rattle.drm_table.specs.declared.answers.Answer.{Answer}
use Rattle.drm_table.specs.declared.apart.Apart.{Apart}
use Rattle.drm_frames.specs.Streams.{SourceTrace, SinkTrace}
use Rattle.drm_frames.specs.Turns.{Took, WriteCost, PartialWriteCost}
use Rattle.drm_frames.specs.Texts.{WritesOut}
use Rattle.drm_frames.specs.declared.turns.Written.{Written}
use Rattle.drm_frames.specs.declared.turns.Written.TheVariants as written
use Rattle.drm_frames.proofs.Traces.{Took-then}
use Rattle.drm_runs.specs.Runs.{Covers}
use Rattle.drm_runs.specs.Script.{Setting}
use Rattle.drm_runs.specs.LineSteps.{LinesState, IsGiven, HoldsNext, IsEndOfLines}
use Rattle.drm_runs.specs.Writing.{end_of_writing}
use Rattle.drm_runs.specs.declared.stops.ScriptEnd.{ScriptEnd}
use Rattle.drm_runs.specs.declared.stops.ScriptEnd.TheVariants as ends
use Rattle.drm_runs.proofs.LineStepLemmas.{covers_lines}
use Rattle.drm_checks.specs.Expectations.{expected_part, is_met}
use Rattle.drm_checks.specs.Differences.{Difference, File, differences_text, text_of, met, unmet}
use Rattle.drm_checks.specs.Checker.{Stands, UsedLine, ChecksLine}
use Rattle.drm_checks.specs.Checker.ChecksLine.{used, bad, unmade}
use Rattle.drm_checks.specs.Checks.{Checked, ChecksOn, Ends, IsCutInLast}
use Rattle.drm_checks.specs.Checks.Checked.{line}
use Rattle.drm_checks.specs.Steps.{SoFar}
use Rattle.drm_checks.specs.declared.check.Report.{Report}
use Rattle.drm_checks.specs.declared.checker.Checker.{Checker}

-- ---- a line has one expectation at most

few : (b : Bool) (d : Difference) → (if b then 1 else 0) + length (if b then [] else d ∷ []) ≤ 1
few true d = omega arith
few false d = omega arith

-- A line meets its expectation or adds one difference, or neither.
pub one_at_most : (n : ℕ) (expected : Option (List ℕ)) (came : Option (Result Answer Apart))
    → met expected came + length (unmet n expected came) ≤ 1
one_at_most n None came = omega arith
one_at_most n (Some expected) came =
    few (is_met expected came) (record { number = n; expected = expected; came = came })

-- ---- telling that stops in the last difference

cut-found : (file : File) (n : ℕ) (ds : List Difference) (b : Bool) (d : Difference) → d.number ≡ n
    → (sent unsent : List ℕ) → differences_text file (if b then [] else d ∷ []) ≡ sent ++ unsent → 0 < length unsent
    → IsCutInLast file n (ds ++ (if b then [] else d ∷ [])) (differences_text file ds ++ sent)
cut-found file n ds true d is sent unsent e more =
    absurd
    (let none = ap (λ (l : List ℕ). length l) e in let all = length-append sent unsent in omega (arith, none, all, more))
cut-found file n ds false d is sent unsent e more =
    record { before = ds; last = d; sent = sent; unsent = unsent; whole = refl; number = is; parts = sym (append-nil (text_of file d)) ∙ e; more = more; text = refl }

-- A report that stops within the last difference has written all the ones before.
pub cut-last : (file : File) (n : ℕ) (ds : List Difference) (expected : Option (List ℕ)) (came : Option (Result Answer Apart)) (sent unsent : List ℕ)
    → differences_text file (unmet n expected came) ≡ sent ++ unsent → 0 < length unsent
    → IsCutInLast file n (ds ++ unmet n expected came) (differences_text file ds ++ sent)
cut-last file n ds None came sent unsent e more =
    absurd
    (let none = ap (λ (l : List ℕ). length l) e in let all = length-append sent unsent in omega (arith, none, all, more))
cut-last file n ds (Some expected) came sent unsent e more =
    cut-found file n ds (is_met expected came) (record { number = n; expected = expected; came = came }) refl sent
    unsent e more

some_end : (a b : ScriptEnd) → Some a ≡ Some b → a ≡ b
some_end a b e = cc

-- ---- a check so far

abbrev pub report_with : ScriptEnd → ℕ → ℕ → Report
report_with end passed failed = record { end = end; passed = passed; failed = failed }

module _ {setting : Setting} {s0 s : SourceTrace} {k0 k : SinkTrace} {read : List ℕ} {lines : List (List ℕ)} {differences : List Difference} (file : File) (turns : ℕ) (old : Checker)
    (given : IsGiven s0 s read) (took : Took k0 k (differences_text file differences)) (cost : s.counts.calls + k.counts.calls + old.turns ≡ s0.counts.calls + k0.counts.calls + turns)
    (checked : Checked setting lines old.passed differences old.interpreter.device old.interpreter.labels) (counted : old.failed ≡ length differences) where
  -- a check that ends with no further line
  ended : (end : ScriptEnd) (rest : List ℕ) → Covers (s0.counts.ends < s.counts.ends) read lines rest
      → Ends end (s0.counts.ends < s.counts.ends) s0 s k0 k turns (length lines) old.interpreter.device rest (differences_text file differences) file differences
      → ChecksOn setting file s0 s k0 k turns (report_with end old.passed old.failed)
  ended end rest covers h = record {
    read = read;
    written = differences_text file differences;
    lines = lines;
    rest = rest;
    differences = differences;
    device = old.interpreter.device;
    labels = old.interpreter.labels;
    gave = given.gave;
    took = took;
    turns_at_most = omega (arith, cost);
    checked = checked;
    failed = counted;
    covers = covers;
    ends = h;
  }

  -- A check without a further line ends with its counts so far.
  pub check_ends : (end : ScriptEnd) → IsEndOfLines end s0 s old.turns read lines
      → ChecksOn setting file s0 s k0 k turns (report_with end old.passed old.failed)
  check_ends ends.Done h = ended ends.Done [] h.0 (refl, h.1, refl)
  check_ends (ends.Malformed number) h =
      let t = h.5 in
      ended (ends.Malformed number) h.1 (inl h.2)
      (h.0, record { bad = h.3; behind = h.4; parts = t.whole; bare = t.bare; end_condition = inr t.long; short = omega (arith, t.behind) }, refl)
  check_ends ends.ReadFault h = ended ends.ReadFault h.0 (inl h.1) (h.2, h.3, refl)
  check_ends ends.TurnsUsed h = ended ends.TurnsUsed h.0 (inl h.1) (omega (arith, cost, h.3), inl (h.2, refl))
  check_ends ends.WriteFault h = absurd h
  check_ends ends.NoMemory h = absurd h

  -- a line is held that was not checked
  module _ {state : LinesState} (h : HoldsNext s0 s state read lines) (new : Checker) (k' : SinkTrace) where
    numbered : state.number ≡ length lines + 1
    numbered = h.so_far.number ∙ length_push lines state.held

    -- it can't be used
    unused : (end : ScriptEnd) → Stands old new k k'
        → Ends end (s0.counts.ends < s.counts.ends) s0 s k0 k turns (length lines) old.interpreter.device (state.held ++ h.behind) (differences_text file differences) file differences
        → ChecksOn setting file s0 s k0 k' turns (report_with end new.passed new.failed)
    unused end st e =
        subst (λ (x : SinkTrace). ChecksOn setting file s0 s k0 x turns (report_with end new.passed new.failed))
        (sym st.unwritten)
        (subst (λ (p : ℕ). ChecksOn setting file s0 s k0 k turns (report_with end p new.failed)) (sym st.passed)
        (subst (λ (f : ℕ). ChecksOn setting file s0 s k0 k turns (report_with end old.passed f)) (sym st.failed) (ended end (state.held ++ h.behind) (inl h.whole) e)))

    module _ {line_end : Option ScriptEnd} (u : UsedLine old new file state k k' line_end) where
      abbrev found : List Difference
      found = unmet state.number (expected_part state.held) u.came

      grown : Checked setting (lines ++ state.held ∷ []) new.passed (differences ++ found) new.interpreter.device new.interpreter.labels
      grown =
          subst
          (λ (p : ℕ). Checked setting (lines ++ state.held ∷ []) p (differences ++ found) new.interpreter.device new.interpreter.labels)
          (sym u.passed)
          (subst (λ (m : ℕ). Checked setting (lines ++ state.held ∷ []) (old.passed + met (expected_part state.held) u.came) (differences ++ unmet m (expected_part state.held) u.came) new.interpreter.device new.interpreter.labels) (sym numbered)
          (line state.held u.came checked h.bare u.uses))

      grown_count : new.failed ≡ length (differences ++ found)
      grown_count = let a = u.failed in let b = length-append differences found in omega (arith, a, b, counted)

      -- a front of the difference was reported
      cut_front : (p : PartialWriteCost k k' (differences_text file found) old.turns new.turns)
          → IsCutInLast file (length (lines ++ state.held ∷ [])) (differences ++ found) (differences_text file differences ++ p.front)
      cut_front p =
          subst (λ (m : ℕ). IsCutInLast file m (differences ++ found) (differences_text file differences ++ p.front))
          h.so_far.number
          (cut-last file state.number differences (expected_part state.held) u.came p.front p.rest p.parts p.more)

      cut_by : (end : ScriptEnd) (p : PartialWriteCost k k' (differences_text file found) old.turns new.turns)
          → Ends end (s0.counts.ends < s.counts.ends) s0 s k0 k' turns (length (lines ++ state.held ∷ [])) new.interpreter.device state.pending (differences_text file differences ++ p.front) file (differences ++ found)
          → ChecksOn setting file s0 s k0 k' turns (report_with end new.passed new.failed)
      cut_by end p e = record {
        read = read;
        written = differences_text file differences ++ p.front;
        lines = lines ++ state.held ∷ [];
        rest = state.pending;
        differences = differences ++ found;
        device = new.interpreter.device;
        labels = new.interpreter.labels;
        gave = given.gave;
        took = Took-then took p.pays.took;
        turns_at_most = (let a = p.pays.cost in omega (arith, a, cost));
        checked = grown;
        failed = grown_count;
        covers = covers_lines state.is_last h.so_far.are_lines;
        ends = e;
      }

      stopped_used : (end : ScriptEnd) (w : Written)
          → WritesOut w k k' (differences_text file found) old.turns new.turns → Some end ≡ end_of_writing w
          → ChecksOn setting file s0 s k0 k' turns (report_with end new.passed new.failed)
      stopped_used end written.Whole w e = absurd (cc)
      stopped_used end written.Fault w e =
          subst (λ (x : ScriptEnd). ChecksOn setting file s0 s k0 k' turns (report_with x new.passed new.failed))
          (sym (some_end end ends.WriteFault e))
          (cut_by ends.WriteFault w.0 ((let a = took.counts.faults in let b = w.1 in omega (arith, a, b)), cut_front w.0, h.short_pending))
      stopped_used end written.TurnsUsed w e =
          subst (λ (x : ScriptEnd). ChecksOn setting file s0 s k0 k' turns (report_with x new.passed new.failed))
          (sym (some_end end ends.TurnsUsed e))
          (cut_by ends.TurnsUsed w.0 ((let a = w.0.pays.cost in let b = w.1 in omega (arith, a, b, cost)), inr (cut_front w.0, h.short_pending)))

      -- After one more line was checked, each line so far was checked.
      pub so_far_used : WriteCost k k' (differences_text file found) old.turns new.turns
          → SoFar setting file s0 s k0 k' turns (record { lines = state; checker = new })
      so_far_used p = record {
        read = read;
        lines = lines ++ state.held ∷ [];
        differences = differences ++ found;
        has_read = h.so_far;
        took = subst (Took k0 k') (sym (flat_map-append (text_of file) differences found)) (Took-then took p.took);
        cost = (let a = p.cost in omega (arith, a, cost));
        checked = grown;
        counted = grown_count;
      }

    -- A check ends at a line that stops it, with the counts of the lines so far.
    pub stopped : (end : ScriptEnd) → ChecksLine old new file state k k' (Some end)
        → ChecksOn setting file s0 s k0 k' turns (report_with end new.passed new.failed)
    stopped end (used u) = stopped_used u end u.written u.writes u.end_is
    stopped (ends.Malformed number) (bad m st) =
        unused (ends.Malformed state.number) st
        (numbered, record { bad = state.held; behind = h.behind; parts = refl; bare = h.bare; end_condition = inl (m, h.until); short = h.short_behind }, refl)
    stopped ends.NoMemory (unmade none wants st) =
        unused ends.NoMemory st
        (record { next = state.held; behind = h.behind; parts = refl; bare = h.bare; until = h.until; none = none; wants = wants; short = h.short_behind }, refl)

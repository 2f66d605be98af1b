-- What sources and sinks say by which a session ends.
use Rattle.std.proofs.Common.{◌≡◌, ℕ, ◌+◌, ◌≤◌, ◌⊎◌, inl, inr, List, [], ◌∷◌, Ok, Err, refl, sym, ap, ◌∙◌, subst, arith}
use Rattle.drm_table.specs.declared.apart.Apart.TheVariants as aparts
use Rattle.drm_frames.specs.Answers.{CallResult}
use Rattle.drm_frames.specs.Streams.{Counts, SinkTrace, one_call}
use Rattle.drm_frames.specs.Turns.{HandsRest, PartialWriteCost, PutCalls, PutPieces, Writes, interrupted, pieces_put}
use Rattle.drm_frames.specs.declared.turns.Written.TheVariants as written
use Rattle.drm_sessions.specs.declared.end.SessionEnd.{SessionEnd}
use Rattle.drm_sessions.specs.declared.end.SessionEnd.TheVariants as ends
use Rattle.drm_sessions.specs.Reading.{EndTold, FaultTold, HandsLater, SinkTells, SourceTells, StopsAt, Untold, WriteShows, Wrote}
use Rattle.drm_sessions.specs.Ends.{EndsClosed, Refuses, Tells, TellsStop}

-- A source that is not called reports nothing.
pub Untold-none : (c : Counts) → Untold c c
Untold-none c = record { ends = refl; failures = refl; faults = omega arith }

-- Two parts without a report are together without a report.
pub Untold-then : {a b c : Counts} → Untold a b → Untold b c → Untold a c
Untold-then p q = record { ends = q.ends ∙ p.ends; failures = q.failures ∙ p.failures; faults = omega arith }

-- ---- one call, after interruptions

-- A call that returns bytes after interruptions reports neither an end nor a failure.
pub got-untold : {old new : Counts} (row : ℕ) → new ≡ one_call (interrupted row old) → Untold old new
got-untold row e = record {
  ends = ap (λ (c : Counts). c.ends) e;
  failures = ap (λ (c : Counts). c.failures) e;
  faults = (let more = ap (λ (c : Counts). c.faults) e in omega arith);
}

interrupted-untold : {old new : Counts} (row : ℕ) → new ≡ interrupted row old → Untold old new
interrupted-untold row e = record {
  ends = ap (λ (c : Counts). c.ends) e;
  failures = ap (λ (c : Counts). c.failures) e;
  faults = (let more = ap (λ (c : Counts). c.faults) e in omega arith);
}

-- ---- one text

pieces-untold : (rows : List ℕ) (c : Counts) → Untold c (pieces_put rows c)
pieces-untold [] c = Untold-none c
pieces-untold (row ∷ rows) c = Untold-then (got-untold row refl) (pieces-untold rows (one_call (interrupted row c)))

put-untold : {old new : Counts} (row : ℕ) → PutPieces old new row → Untold old new
put-untold {old} row p = Untold-then (pieces-untold p.rows old) (interrupted-untold row p.counts)

put-fault : {old new : Counts} → PutCalls written.Fault old new → FaultTold old new
put-fault {old} {new} (inl h) =
    let before = put-untold h.0 h.3 in record {
      ends = ap (λ (c : Counts). c.ends) h.4 ∙ before.ends;
      fault = inl (ap (λ (c : Counts). c.failures) h.4 ∙ ap (λ (n : ℕ). n + 1) before.failures);
    }
put-fault {old} {new} (inr p) =
    let before = pieces-untold p.rows old in record {
      ends = ap (λ (c : Counts). c.ends) p.counts ∙ before.ends;
      fault =
          inr
          (ap (λ (c : Counts). c.failures) p.counts ∙ before.failures, (let more = ap (λ (c : Counts). c.faults) p.counts in omega arith));
    }

-- A text that the sink took whole is written whole.
pub wrote-whole : {from to : SinkTrace} {text : List ℕ} {had has : ℕ} → Writes written.Whole from to text had has
    → PutCalls written.Whole from.counts to.counts → Wrote (Ok tt) from to text had has
wrote-whole w calls = (w.0, w.1, put-untold 0 calls)

-- If no turn is left, a text is written in part, which ends the session.
pub wrote-used : {from to : SinkTrace} {text : List ℕ} {had has : ℕ} → Writes written.TurnsUsed from to text had has
    → PutCalls written.TurnsUsed from.counts to.counts → Wrote (Err ends.TurnsUsed) from to text had has
wrote-used w calls = (w.0, w.1, tt, put-untold calls.0 calls.2)

-- If the sink fails, a text is written in part, which ends the session.
pub wrote-fault : {from to : SinkTrace} {text : List ℕ} {had has : ℕ} → Writes written.Fault from to text had has
    → PutCalls written.Fault from.counts to.counts → HandsRest written.Fault from to text
    → Wrote (Err ends.WriteFault) from to text had has
wrote-fault {from} {to} {text} {had} {has} w calls hands =
    let part : PartialWriteCost from to text had has = record {
      front = hands.0;
      rest = hands.1;
      parts = hands.2;
      more = hands.5;
      pays = record { took = record { taken = hands.3; counts = w.0.pays.took.counts }; cost = w.0.pays.cost };
    } in (part, w.1, hands.4, put-fault calls)

-- ---- what was reported in the end, after calls that told nothing

end-later : {a b c : Counts} → Untold a b → EndTold b c → EndTold a c
end-later p q = record { ends = q.ends ∙ ap (λ (n : ℕ). n + 1) p.ends; failures = q.failures ∙ p.failures }

fault-by : (a b c : Counts) → Untold a b
    → (c.failures ≡ b.failures + 1) ⊎ ((c.failures ≡ b.failures) × (b.faults + 1000 ≤ c.faults))
    → (c.failures ≡ a.failures + 1) ⊎ ((c.failures ≡ a.failures) × (a.faults + 1000 ≤ c.faults))
fault-by a b c p (inl e) = inl (e ∙ ap (λ (n : ℕ). n + 1) p.failures)
fault-by a b c p (inr h) = inr (h.0 ∙ p.failures, (let more = p.faults in let many = h.1 in omega arith))

fault-later : {a b c : Counts} → Untold a b → FaultTold b c → FaultTold a c
fault-later {a} {b} {c} p q = record { ends = q.ends ∙ p.ends; fault = fault-by a b c p q.fault }

source-later : (e : SessionEnd) (a b c : Counts) → Untold a b → SourceTells e b c → SourceTells e a c
source-later ends.Ended a b c p q = end-later p q
source-later ends.Truncated a b c p q = end-later p q
source-later ends.ReadFault a b c p q = fault-later p q
source-later ends.TooLong a b c p q = Untold-then p q
source-later ends.BadHello a b c p q = Untold-then p q
source-later (ends.OpenRefused rule) a b c p q = Untold-then p q
source-later ends.WriteFault a b c p q = Untold-then p q
source-later ends.TurnsUsed a b c p q = Untold-then p q
source-later (ends.Apart apart) a b c p q = Untold-then p q

sink-later : (e : SessionEnd) (a b c : Counts) → Untold a b → SinkTells e b c → SinkTells e a c
sink-later ends.WriteFault a b c p q = fault-later p q
sink-later ends.Ended a b c p q = Untold-then p q
sink-later ends.Truncated a b c p q = Untold-then p q
sink-later ends.ReadFault a b c p q = Untold-then p q
sink-later ends.TooLong a b c p q = Untold-then p q
sink-later ends.BadHello a b c p q = Untold-then p q
sink-later (ends.OpenRefused rule) a b c p q = Untold-then p q
sink-later ends.TurnsUsed a b c p q = Untold-then p q
sink-later (ends.Apart apart) a b c p q = Untold-then p q

-- What is reported at an end is the same after earlier calls that reported nothing.
pub Tells-later : (e : SessionEnd) {in0 in1 in2 out0 out1 out2 : Counts} → Untold in0 in1 → Untold out0 out1
    → Tells e in1 in2 out1 out2 → Tells e in0 in2 out0 out2
Tells-later e p q t = record { source = source-later e _ _ _ p t.source; sink = sink-later e _ _ _ q t.sink }

-- What is reported at a session's end is the same after earlier calls that reported nothing.
pub TellsStop-later : {e : SessionEnd} {in0 in1 in2 out0 out1 out2 : Counts} → Untold in0 in1 → Untold out0 out1
    → TellsStop e in1 in2 out1 out2 → TellsStop e in0 in2 out0 out2
TellsStop-later p q t = record { stopped = t.stopped; same = t.same; tells = Tells-later t.stopped p q t.tells }

-- ---- where reading stops, and where writing does

sink-quiet : (e : SessionEnd) (waits : List ℕ) {a b : Counts} → StopsAt e waits → Untold a b → SinkTells e a b
sink-quiet ends.WriteFault waits h u = absurd h
sink-quiet ends.Ended waits h u = u
sink-quiet ends.Truncated waits h u = u
sink-quiet ends.ReadFault waits h u = u
sink-quiet ends.TooLong waits h u = u
sink-quiet ends.BadHello waits h u = u
sink-quiet (ends.OpenRefused rule) waits h u = u
sink-quiet ends.TurnsUsed waits h u = u
sink-quiet (ends.Apart apart) waits h u = u

source-quiet : (e : SessionEnd) (from to : SinkTrace) (has : ℕ) {a b : Counts} → WriteShows e from to has → Untold a b
    → SourceTells e a b
source-quiet ends.WriteFault from to has h u = u
source-quiet ends.TurnsUsed from to has h u = u
source-quiet ends.Ended from to has h u = absurd h
source-quiet ends.Truncated from to has h u = absurd h
source-quiet ends.ReadFault from to has h u = absurd h
source-quiet ends.TooLong from to has h u = u
source-quiet ends.BadHello from to has h u = u
source-quiet (ends.OpenRefused rule) from to has h u = u
source-quiet (ends.Apart apart) from to has h u = u

-- If reading stops a session, the source says why and the sink reports nothing.
pub tells-read : (e : SessionEnd) (waits : List ℕ) {in0 in1 in2 out0 out1 : Counts} → StopsAt e waits → Untold in0 in1
    → Untold out0 out1 → SourceTells e in1 in2 → Tells e in0 in2 out0 out1
tells-read e waits h p q told = record { source = source-later e _ _ _ p told; sink = sink-quiet e waits h q }

-- If writing stops a session, the sink says why and the source reports nothing.
pub tells-write : (e : SessionEnd) (from to : SinkTrace) (has : ℕ) {in0 in1 out0 : Counts} → WriteShows e from to has
    → Untold in0 in1 → Untold out0 from.counts → SinkTells e from.counts to.counts → Tells e in0 in1 out0 to.counts
tells-write e from to has h p q told =
    record { source = source-quiet e from to has h p; sink = sink-later e _ _ _ q told }

-- If reading stops a session, no answer remains to be written.
pub hands-read : (e : SessionEnd) (waits : List ℕ) (to : SinkTrace) → StopsAt e waits → HandsLater e to []
hands-read ends.WriteFault waits to h = absurd h
hands-read ends.Ended waits to h = tt
hands-read ends.Truncated waits to h = tt
hands-read ends.ReadFault waits to h = tt
hands-read ends.TooLong waits to h = tt
hands-read ends.BadHello waits to h = tt
hands-read (ends.OpenRefused rule) waits to h = tt
hands-read ends.TurnsUsed waits to h = tt
hands-read (ends.Apart apart) waits to h = tt

-- ---- after the closing

-- A closing leaves what the sink was handed at the end.
pub hands-closed : (e : SessionEnd) (r : CallResult) (end : SessionEnd) (to : SinkTrace) (later : List ℕ)
    → EndsClosed e r end → HandsLater e to later → HandsLater end to later
hands-closed e (Ok answer) end to later is h = subst (λ (x : SessionEnd). HandsLater x to later) (sym is) h
hands-closed e (Err aparts.JournalFull) end to later is h = subst (λ (x : SessionEnd). HandsLater x to later) (sym is) h
hands-closed e (Err aparts.NoMemory) end to later is h = subst (λ (x : SessionEnd). HandsLater x to later) (sym is) h
hands-closed e (Err aparts.Worn) end to later is h = subst (λ (x : SessionEnd). HandsLater x to later) (sym is) tt

-- A closing leaves what source and sink reported at the end.
pub tells-closed : (e : SessionEnd) (r : CallResult) (end : SessionEnd) {in0 in1 out0 out1 : Counts}
    → EndsClosed e r end → Tells e in0 in1 out0 out1 → TellsStop end in0 in1 out0 out1
tells-closed e (Ok answer) end is t = record { stopped = e; same = inl is; tells = t }
tells-closed e (Err aparts.JournalFull) end is t = record { stopped = e; same = inl is; tells = t }
tells-closed e (Err aparts.NoMemory) end is t = record { stopped = e; same = inl is; tells = t }
tells-closed e (Err aparts.Worn) end is t = record { stopped = e; same = inr is; tells = t }

-- A refusal that ends as is meant reports nothing further.
pub tells-refused : (meant : SessionEnd) {end : SessionEnd} {from to : SinkTrace} {text : List ℕ} {had has : ℕ} (c : Counts)
    → SourceTells meant c c → (Untold from.counts to.counts → SinkTells meant from.counts to.counts)
    → Refuses meant end from to text had has → TellsStop end c c from.counts to.counts
tells-refused meant c source sink (inl p) =
    record { stopped = meant; same = inl p.0; tells = record { source = source; sink = sink p.2 } }
tells-refused meant {end} {from} {to} {has} c source sink (inr p) =
    record { stopped = end; same = inl refl; tells = tells-write end from to has p.1 (Untold-none c) (Untold-none from.counts) p.3 }

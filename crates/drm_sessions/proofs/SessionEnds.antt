-- How a session's requests are an end.
use Rattle.std.proofs.Common.{◌≡◌, ℕ, true, false, ◌+◌, ◌≤◌, List, [], ◌∷◌, ◌++◌, Ok, Err, refl, sym, ap, ◌∙◌, subst, arith, append_assoc, inl, inr}
use Rattle.std.specs.Io.KnownBytes.{Appends}
use Rattle.std.proofs.lemmas.List.{append-nil}
use Rattle.std.proofs.KnownBytes.{Appends-nil, Appends-trans}
use Rattle.drm_table.specs.declared.events.Event.{Event}
use Rattle.drm_frames.specs.Grammar.{FrameValue}
use Rattle.drm_frames.specs.Answers.{CallResult, answer_text}
use Rattle.drm_frames.specs.Streams.{SourceTrace, SinkTrace}
use Rattle.drm_frames.specs.Turns.{NeverFall, ReadCost, WriteCost, PartialWriteCost}
use Rattle.drm_sessions.specs.declared.end.SessionEnd.{SessionEnd}
use Rattle.drm_sessions.specs.declared.end.SessionEnd.TheVariants as ends
use Rattle.drm_sessions.specs.ReadChunks.{ends_in_chunk}
use Rattle.drm_sessions.specs.Reading.{Comes, HandsLater, Uses, StopsAt, ReadShows, WriteShows}
use Rattle.drm_sessions.specs.Runs.{asked, one_if_journaled, session_text, Requests}
use Rattle.drm_sessions.specs.Ends.{TruncatesLastAnswer, Leaves, IoCost, Shows, Ends}
use Rattle.drm_sessions.proofs.Telling.{hands-read}
use Rattle.drm_sessions.proofs.Composing.{none-yet, bytes-more, frame-more, session_text-push}

-- ---- what waits, and what wasn't written

leaves-read : (e : SessionEnd) (waits : List ℕ) (results : List CallResult) → StopsAt e waits
    → Leaves e waits results []
leaves-read ends.Ended waits results h = (h, refl)
leaves-read ends.Truncated waits results h = (h, refl)
leaves-read ends.TooLong waits results h = (h, refl)
leaves-read ends.ReadFault waits results h = (h, refl)
leaves-read ends.TurnsUsed waits results h = inl (h, refl)
leaves-read ends.WriteFault waits results h = absurd h
leaves-read ends.BadHello waits results h = h
leaves-read (ends.OpenRefused rule) waits results h = h
leaves-read (ends.Apart apart) waits results h = h

-- If writing stops a session, part of the last answer is not written.
pub leaves-write : (e : SessionEnd) (waits : List ℕ) (results : List CallResult) (later : List ℕ) (from to : SinkTrace) (has : ℕ)
    → WriteShows e from to has → TruncatesLastAnswer results later → Leaves e waits results later
leaves-write ends.WriteFault waits results later from to has h cut = cut
leaves-write ends.TurnsUsed waits results later from to has h cut = inr cut
leaves-write ends.Ended waits results later from to has h cut = absurd h
leaves-write ends.Truncated waits results later from to has h cut = absurd h
leaves-write ends.TooLong waits results later from to has h cut = absurd h
leaves-write ends.ReadFault waits results later from to has h cut = absurd h
leaves-write ends.BadHello waits results later from to has h cut = absurd h
leaves-write (ends.OpenRefused rule) waits results later from to has h cut = absurd h
leaves-write (ends.Apart apart) waits results later from to has h cut = absurd h

-- ---- what the traces show

-- If reading stops a session, the traces of its last read show why.
pub shows-read : (e : SessionEnd) (waits : List ℕ) (in0 in1 in2 : SourceTrace) (out0 out1 : SinkTrace) (has : ℕ)
    → StopsAt e waits
    → NeverFall in0.counts in1.counts → ReadShows e in1 in2 has → Shows e in0 in2 out0 out1 has
shows-read ends.Ended waits in0 in1 in2 out0 out1 has h n r = (r.0, omega arith)
shows-read ends.Truncated waits in0 in1 in2 out0 out1 has h n r = (r.0, omega arith)
shows-read ends.TooLong waits in0 in1 in2 out0 out1 has h n r = tt
shows-read ends.ReadFault waits in0 in1 in2 out0 out1 has h n r = omega arith
shows-read ends.TurnsUsed waits in0 in1 in2 out0 out1 has h n r = r
shows-read ends.WriteFault waits in0 in1 in2 out0 out1 has h n r = absurd h
shows-read ends.BadHello waits in0 in1 in2 out0 out1 has h n r = tt
shows-read (ends.OpenRefused rule) waits in0 in1 in2 out0 out1 has h n r = tt
shows-read (ends.Apart apart) waits in0 in1 in2 out0 out1 has h n r = tt

-- ---- turns

-- No calls of source and sink cost no turns.
pub IoCost-none : (source : SourceTrace) (sink : SinkTrace) (turns : ℕ) → IoCost source source sink sink turns turns
IoCost-none source sink turns = record {
  each = refl;
  source = record { calls = omega arith; ends = omega arith; faults = omega arith };
  sink = record { calls = omega arith; ends = omega arith; faults = omega arith };
}

-- Two parts of a session, one after the other, cost the turns of both.
pub IoCost-then : {in0 in1 in2 : SourceTrace} {out0 out1 out2 : SinkTrace} {s t u : ℕ} → IoCost in0 in1 out0 out1 s t
    → IoCost in1 in2 out1 out2 t u → IoCost in0 in2 out0 out2 s u
IoCost-then p q = record {
  each = omega arith;
  source = record { calls = omega arith; ends = omega arith; faults = omega arith };
  sink = record { calls = omega arith; ends = omega arith; faults = omega arith };
}

-- What was read costs the turns of the reads.
pub IoCost-read : {in0 in1 : SourceTrace} {bytes : List ℕ} {s t : ℕ} (sink : SinkTrace) → ReadCost in0 in1 bytes s t
    → IoCost in0 in1 sink sink s t
IoCost-read sink p = record {
  each = omega arith;
  source = p.gave.counts;
  sink = record { calls = omega arith; ends = omega arith; faults = omega arith };
}

-- What was written costs the turns of the writes.
pub IoCost-write : {out0 out1 : SinkTrace} {bytes : List ℕ} {s t : ℕ} (source : SourceTrace)
    → WriteCost out0 out1 bytes s t → IoCost source source out0 out1 s t
IoCost-write source p = record {
  each = omega arith;
  source = record { calls = omega arith; ends = omega arith; faults = omega arith };
  sink = p.took.counts;
}

-- A call adds one step to the journal at most.
pub one_if_journaled-at-most : (result : CallResult) → one_if_journaled result ≤ 1
one_if_journaled-at-most (Ok answer) = omega arith
one_if_journaled-at-most (Err apart) = omega arith

-- ---- the ends

-- A session that has not read past its last frame is not one that has.
pub not-behind : false ≡ true → ⊥
not-behind e = cc

module _ {A : Type 0} (answers : A → Event → CallResult → A → Type 0) (client : ℕ) where
  -- what holds while requests are answered: each answer so far is written whole
  pub record SoFar (old new : A) (in0 in1 : SourceTrace) (out0 out1 : SinkTrace) (waited waits : List ℕ) (steps : ℕ) : Type 0 where
    pub results : List CallResult
    pub did : Requests answers client old new in0 in1 waited waits results steps false
    pub wrote : Appends out0.written out1.written (session_text results)

  -- Before the first request nothing is answered and nothing written.
  pub SoFar-none : (a : A) (source : SourceTrace) (sink : SinkTrace) (waits : List ℕ)
      → SoFar a a source source sink sink waits waits 0
  SoFar-none a source sink waits =
      record { results = []; did = none-yet answers client a source waits; wrote = Appends-nil sink.written }

  -- One more request with its answer written whole leaves each answer so far written whole.
  pub SoFar-more : {a0 a1 a2 : A} {in0 in1 in2 : SourceTrace} {out0 out1 out2 : SinkTrace} {w0 w1 w2 : List ℕ} {steps one s t u v : ℕ} {frame : FrameValue} {result : CallResult}
      → SoFar a0 a1 in0 in1 out0 out1 w0 w1 steps → Uses in1 in2 w1 w2 s t frame
      → answers a1 (asked client frame) result a2 → one ≡ one_if_journaled result
      → WriteCost out1 out2 (answer_text result) u v → SoFar a0 a2 in0 in2 out0 out2 w0 w2 (steps + one)
  SoFar-more {a0} {a2} {in0} {in2} {out0} {out1} {out2} {w0} {w2} {steps} {result} r m h n p = record {
    results = r.results ++ result ∷ [];
    did =
        subst (λ (k : ℕ). Requests answers client a0 a2 in0 in2 w0 w2 (r.results ++ result ∷ []) (steps + k) false)
        (sym n) (frame-more answers client r.did m h);
    wrote = subst (λ (x : List ℕ). Appends out0.written out2.written x) (sym (session_text-push r.results result))
        (Appends-trans out0.written out1.written out2.written (session_text r.results) (answer_text result) r.wrote p.took.taken);
  }

  -- If reading stops, the requests end with all answers written.
  pub stopped-reading : {a0 a1 : A} {in0 in1 in2 : SourceTrace} {out0 out1 : SinkTrace} {w0 w1 w2 : List ℕ} {steps s t : ℕ} (e : SessionEnd)
      → SoFar a0 a1 in0 in1 out0 out1 w0 w1 steps → Comes in1 in2 w1 w2 s t → StopsAt e w2
      → Ends answers client a0 a1 in0 in2 out0 out1 [] w0 steps e
  stopped-reading {out1} {w2} e r m h = record {
    waits = w2;
    results = r.results;
    front = session_text r.results;
    later = [];
    behind = ends_in_chunk m.chunks false;
    did = bytes-more answers client r.did m;
    puts = record { parts = sym (append-nil (session_text r.results)); commits = r.wrote };
    leaves = leaves-read e w2 r.results h;
    prompt = λ _. refl;
    handed = hands-read e w2 out1 h;
  }

  -- If writing stops, the requests end with the last answer written in part.
  pub stopped-writing : {a0 a1 a2 : A} {in0 in1 in2 : SourceTrace} {out0 out1 out2 : SinkTrace} {w0 w1 w2 : List ℕ} {steps one s t u v : ℕ} {frame : FrameValue} {result : CallResult} (e : SessionEnd)
      → SoFar a0 a1 in0 in1 out0 out1 w0 w1 steps → Uses in1 in2 w1 w2 s t frame
      → answers a1 (asked client frame) result a2 → one ≡ one_if_journaled result
      → (p : PartialWriteCost out1 out2 (answer_text result) u v) → WriteShows e out1 out2 v → HandsLater e out2 p.rest
      → Ends answers client a0 a2 in0 in2 out0 out2 [] w0 (steps + one) e
  stopped-writing {a0} {a2} {in0} {in2} {out0} {out1} {out2} {w0} {w2} {steps} {v} {result} e r m h n p shows handed =
      let results : List CallResult = r.results ++ result ∷ [] in
      record {
        waits = w2;
        results = results;
        front = session_text r.results ++ p.front;
        later = p.rest;
        behind = false;
        did =
            subst (λ (k : ℕ). Requests answers client a0 a2 in0 in2 w0 w2 results (steps + k) false) (sym n)
            (frame-more answers client r.did m h);
        puts = record {
          parts =
              session_text-push r.results result ∙ ap (λ (x : List ℕ). session_text r.results ++ x) p.parts
              ∙ sym (append_assoc (session_text r.results) p.front p.rest);
          commits =
              Appends-trans out0.written out1.written out2.written (session_text r.results) p.front r.wrote
              p.pays.took.taken;
        };
        leaves =
            leaves-write e w2 results p.rest out1 out2 v shows
            (record { before = r.results; last = result; sent = p.front; whole = refl; parts = p.parts; more = p.more });
        prompt = λ wrong. absurd (not-behind wrong);
        handed = handed;
      }

-- One more turn of a session's requests.
use Rattle.std.proofs.Common.{◌≡◌, ℕ, Bool, false, ◌+◌, List, [], ◌∷◌, ◌++◌, refl, sym, ap, ◌∙◌, subst, arith, append_assoc}
use Rattle.std.specs.List.{flat_map, AllByRecursion}
use Rattle.std.proofs.lemmas.List.{append-nil, flat_map_more, map_push}
use Rattle.std.proofs.KnownBytes.{Consumes-nil, Consumes-trans}
use Rattle.drm_table.specs.declared.events.Event.{Event}
use Rattle.drm_frames.specs.Grammar.{FrameValue, frame_text, IsFrame}
use Rattle.drm_frames.specs.Answers.{CallResult, answer_text}
use Rattle.drm_frames.specs.Streams.{SourceTrace}
use Rattle.drm_sessions.specs.ReadChunks.{Used, ends_in_chunk}
use Rattle.drm_sessions.specs.Reading.{Comes, Uses}
use Rattle.drm_sessions.specs.Runs.{RequestReply, request_reply, Runs, asked, outcomes, session_text, journaled, one_if_journaled, Requests}
use Rattle.drm_sessions.proofs.Taking.{Takes-none, Takes-then, Takes-read, Uses-takes, ends_in_chunk-then}

All-push : {X : Type 0} (P : X → Type 0) (xs : List X) (x : X) → AllByRecursion P xs → P x
    → AllByRecursion P (xs ++ x ∷ [])
All-push P [] x h p = (p, tt)
All-push P (y ∷ xs) x h p = (h.0, All-push P xs x h.1 p)

-- Calls that lead from one value to another lead further by one more call.
pub Runs-push : {A : Type 0} (answers : A → Event → CallResult → A → Type 0) (a b c : A) (log : List RequestReply) (call : RequestReply)
    → Runs answers a log b → answers b call.event call.outcome c → Runs answers a (log ++ call ∷ []) c
Runs-push answers a b c [] call r h = (c, subst (λ x. answers x call.event call.outcome c) r h, refl)
Runs-push answers a b c (first ∷ log) call r h = (r.0, r.1, Runs-push answers r.0 b c log call r.2 h)

-- One more result adds one to the recorded results if the journal has recorded it.
pub journaled-push : (results : List CallResult) (result : CallResult)
    → journaled (results ++ result ∷ []) ≡ journaled results + one_if_journaled result
journaled-push [] result = omega arith
journaled-push (first ∷ results) result = let e = journaled-push results result in omega (arith, e)

-- The results of one more call are the old ones, then its result.
pub outcomes-push : (log : List RequestReply) (call : RequestReply)
    → outcomes (log ++ call ∷ []) ≡ outcomes log ++ call.outcome ∷ []
outcomes-push log call = map_push (λ (x : RequestReply). x.outcome) log call

-- The text of one more result is the old text, then the text of its answer.
pub session_text-push : (results : List CallResult) (result : CallResult)
    → session_text (results ++ result ∷ []) ≡ session_text results ++ answer_text result
session_text-push results result = sym (flat_map_more answer_text [] results result)

module _ {A : Type 0} (answers : A → Event → CallResult → A → Type 0) (client : ℕ) where
  -- A client that has sent nothing has no requests answered.
  pub none-yet : (a : A) (source : SourceTrace) (waits : List ℕ)
      → Requests answers client a a source source waits waits [] 0 false
  none-yet a source waits = record {
    read = [];
    frames = [];
    log = [];
    taken = Consumes-nil source.left;
    parts = append-nil waits;
    fit = tt;
    made = refl;
    asks = refl;
    answered = refl;
    counted = refl;
    chunks = [];
    takes = Takes-none source waits;
    last = refl;
  }

  -- More bytes that were read leave the requests that were answered.
  pub bytes-more : {a0 a1 : A} {s0 s1 s2 : SourceTrace} {w0 w1 w2 : List ℕ} {results : List CallResult} {steps t u : ℕ} {behind : Bool}
      → Requests answers client a0 a1 s0 s1 w0 w1 results steps behind → (m : Comes s1 s2 w1 w2 t u)
      → Requests answers client a0 a1 s0 s2 w0 w2 results steps (ends_in_chunk m.chunks behind)
  bytes-more {s0} {s1} {s2} {w0} {w1} r m = record {
    read = r.read ++ m.more;
    frames = r.frames;
    log = r.log;
    taken = Consumes-trans s0.left s1.left s2.left r.read m.more r.taken m.spends.gave.given;
    parts =
        sym (append_assoc w0 r.read m.more) ∙ ap (λ (x : List ℕ). x ++ m.more) r.parts
        ∙ append_assoc (flat_map frame_text r.frames) w1 m.more
        ∙ ap (λ (x : List ℕ). flat_map frame_text r.frames ++ x) (sym m.parts);
    fit = r.fit;
    made = r.made;
    asks = r.asks;
    answered = r.answered;
    counted = r.counted;
    chunks = r.chunks ++ m.chunks;
    takes = Takes-read r.takes m.takes;
    last = ends_in_chunk-then r.chunks m.chunks false ∙ ap (λ (was : Bool). ends_in_chunk m.chunks was) r.last;
  }

  -- One more frame is one more request, with the answer of its call.
  pub frame-more : {a0 a1 a2 : A} {s0 s1 s2 : SourceTrace} {w0 w1 w2 : List ℕ} {results : List CallResult} {steps t u : ℕ} {behind : Bool} {frame : FrameValue} {result : CallResult}
      → Requests answers client a0 a1 s0 s1 w0 w1 results steps behind → Uses s1 s2 w1 w2 t u frame
      → answers a1 (asked client frame) result a2
      → Requests answers client a0 a2 s0 s2 w0 w2 (results ++ result ∷ []) (steps + one_if_journaled result) false
  frame-more {a0} {a1} {a2} {s0} {s1} {s2} {w0} {w1} {w2} {results} {steps} {frame} {result} r m h =
      let frames : List ℕ = flat_map frame_text r.frames in
      let call : RequestReply = request_reply (asked client frame) result in
      record {
        read = r.read ++ m.more;
        frames = r.frames ++ frame ∷ [];
        log = r.log ++ call ∷ [];
        taken = Consumes-trans s0.left s1.left s2.left r.read m.more r.taken m.spends.gave.given;
        parts =
            sym (append_assoc w0 r.read m.more) ∙ ap (λ (x : List ℕ). x ++ m.more) r.parts
            ∙ append_assoc frames w1 m.more
            ∙ ap (λ (x : List ℕ). frames ++ x) m.parts ∙ sym (append_assoc frames (frame_text frame) w2)
            ∙ ap (λ (x : List ℕ). x ++ w2) (flat_map_more frame_text [] r.frames frame);
        fit = All-push IsFrame r.frames frame r.fit m.fits;
        made = Runs-push answers a0 a1 a2 r.log call r.made h;
        asks =
            map_push (λ (x : RequestReply). x.event) r.log call
            ∙ ap (λ (x : List Event). x ++ asked client frame ∷ []) r.asks
            ∙ sym (map_push (asked client) r.frames frame);
        answered = outcomes-push r.log call ∙ ap (λ (x : List CallResult). x ++ result ∷ []) r.answered;
        counted = journaled-push results result ∙ ap (λ (n : ℕ). n + one_if_journaled result) r.counted;
        chunks = r.chunks ++ (m.chunks ++ Used frame ∷ []);
        takes = Takes-then r.takes (Uses-takes m);
        last =
            ends_in_chunk-then r.chunks (m.chunks ++ Used frame ∷ []) false
            ∙ ends_in_chunk-then m.chunks (Used frame ∷ []) (ends_in_chunk r.chunks false);
      }

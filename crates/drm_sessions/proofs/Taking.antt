-- Bytes that are taken one after the other.
use Rattle.std.proofs.Common.{◌≡◌, ℕ, Bool, true, false, List, [], ◌∷◌, ◌++◌, length, refl, sym, ap, ◌∙◌, subst, append_assoc}
use Rattle.std.proofs.lemmas.List.{append-nil}
use Rattle.drm_frames.specs.Grammar.{FrameValue, frame_text, IsPart}
use Rattle.drm_frames.specs.Streams.{SourceTrace}
use Rattle.drm_frames.proofs.Traces.{Gave-none, ReadCost-then}
use Rattle.drm_sessions.specs.ReadChunks.{ReadChunk, Chunk, Used, InTurn, bytes_taken, frames_used, last_chunk, ends_in_chunk, Takes}
use Rattle.drm_sessions.specs.Reading.{Gives, Comes, Uses}

-- ---- chunks and frames, one after the other

InTurn-then : (a b c : List ℕ) (xs ys : List ReadChunk) → InTurn a xs b → InTurn b ys c → InTurn a (xs ++ ys) c
InTurn-then a b c [] ys p q = subst (λ (w : List ℕ). InTurn w ys c) p q
InTurn-then a b c (Chunk bytes ∷ xs) ys p q = (p.0, p.1, InTurn-then (a ++ bytes) b c xs ys p.2 q)
InTurn-then a b c (Used frame ∷ xs) ys p q = (p.0, p.1, InTurn-then p.0 b c xs ys p.2 q)

bytes_taken-then : (xs ys : List ReadChunk) → bytes_taken (xs ++ ys) ≡ bytes_taken xs ++ bytes_taken ys
bytes_taken-then [] ys = refl
bytes_taken-then (Chunk bytes ∷ xs) ys =
    ap (λ (l : List ℕ). bytes ++ l) (bytes_taken-then xs ys)
    ∙ sym (append_assoc bytes (bytes_taken xs) (bytes_taken ys))
bytes_taken-then (Used frame ∷ xs) ys = bytes_taken-then xs ys

frames_used-then : (xs ys : List ReadChunk) → frames_used (xs ++ ys) ≡ frames_used xs ++ frames_used ys
frames_used-then [] ys = refl
frames_used-then (Chunk bytes ∷ xs) ys = frames_used-then xs ys
frames_used-then (Used frame ∷ xs) ys = ap (λ (l : List FrameValue). frame ∷ l) (frames_used-then xs ys)

last_chunk-then : (xs ys : List ReadChunk) (gave : ℕ) → last_chunk (xs ++ ys) gave ≡ last_chunk ys (last_chunk xs gave)
last_chunk-then [] ys gave = refl
last_chunk-then (Chunk bytes ∷ xs) ys gave = last_chunk-then xs ys (length bytes)
last_chunk-then (Used frame ∷ xs) ys gave = last_chunk-then xs ys gave

-- Whether bytes follow the last frame of two lists of chunks is decided by the second, if it has any.
pub ends_in_chunk-then : (xs ys : List ReadChunk) (was : Bool)
    → ends_in_chunk (xs ++ ys) was ≡ ends_in_chunk ys (ends_in_chunk xs was)
ends_in_chunk-then [] ys was = refl
ends_in_chunk-then (Chunk bytes ∷ xs) ys was = ends_in_chunk-then xs ys true
ends_in_chunk-then (Used frame ∷ xs) ys was = ends_in_chunk-then xs ys false

-- Nothing taken leaves the source and the waiting bytes unchanged.
pub Takes-none : (source : SourceTrace) (waits : List ℕ) → Takes source source waits waits [] [] []
Takes-none source waits = record { in_turn = refl; gave = refl; bytes = refl; used = refl }

-- Bytes and frames taken in two parts, one after the other, are all taken together.
pub Takes-then : {a b c : SourceTrace} {w0 w1 w2 : List ℕ} {xs ys : List ReadChunk} {r s : List ℕ} {fs gs : List FrameValue}
    → Takes a b w0 w1 xs r fs → Takes b c w1 w2 ys s gs → Takes a c w0 w2 (xs ++ ys) (r ++ s) (fs ++ gs)
Takes-then {a} {b} {c} {w0} {w1} {w2} {xs} {ys} {r} {s} {fs} {gs} p q = record {
  in_turn = InTurn-then w0 w1 w2 xs ys p.in_turn q.in_turn;
  gave = q.gave ∙ ap (λ (n : ℕ). last_chunk ys n) p.gave ∙ sym (last_chunk-then xs ys a.gave);
  bytes =
      bytes_taken-then xs ys ∙ ap (λ (l : List ℕ). l ++ bytes_taken ys) p.bytes ∙ ap (λ (l : List ℕ). r ++ l) q.bytes;
  used =
      frames_used-then xs ys ∙ ap (λ (l : List FrameValue). l ++ frames_used ys) p.used
      ∙ ap (λ (l : List FrameValue). fs ++ l) q.used;
}

-- Bytes that are taken without a frame continue what was taken.
pub Takes-read : {a b c : SourceTrace} {w0 w1 w2 : List ℕ} {xs ys : List ReadChunk} {r s : List ℕ} {fs : List FrameValue}
    → Takes a b w0 w1 xs r fs → Takes b c w1 w2 ys s [] → Takes a c w0 w2 (xs ++ ys) (r ++ s) fs
Takes-read {a} {b} {c} {w0} {w1} {w2} {xs} {ys} {r} {s} {fs} p q =
    subst (λ (l : List FrameValue). Takes a c w0 w2 (xs ++ ys) (r ++ s) l) (append-nil fs) (Takes-then p q)

Takes-chunk : {a b : SourceTrace} {w0 w1 : List ℕ} {s t : ℕ} → IsPart w0 → (m : Gives a b w0 w1 s t)
    → Takes a b w0 w1 (Chunk m.more ∷ []) m.more []
Takes-chunk part m = record { in_turn = (part, m.some, m.parts); gave = m.gave; bytes = append-nil m.more; used = refl }

Takes-frame : (source : SourceTrace) (waited waits : List ℕ) (frame : FrameValue) → waited ≡ frame_text frame ++ waits
    → Takes source source waited waits (Used frame ∷ []) [] (frame ∷ [])
Takes-frame source waited waits frame parts =
    record { in_turn = (waits, parts, refl); gave = refl; bytes = refl; used = refl }

-- ---- reading for a frame

-- No bytes read leave the source and the turns unchanged.
pub Comes-none : (source : SourceTrace) (waits : List ℕ) (turns : ℕ) → Comes source source waits waits turns turns
Comes-none source waits turns = record {
  more = [];
  spends = record { gave = Gave-none source; cost = refl };
  parts = sym (append-nil waits);
  chunks = [];
  takes = Takes-none source waits;
}

-- Bytes read in two parts, one after the other, are read together.
pub Comes-more : {a b c : SourceTrace} {w0 w1 w2 : List ℕ} {s t u : ℕ} → Comes a b w0 w1 s t → IsPart w1
    → Gives b c w1 w2 t u → Comes a c w0 w2 s u
Comes-more {w0} p part m = record {
  more = p.more ++ m.more;
  spends = ReadCost-then p.spends m.spends;
  parts = m.parts ∙ ap (λ (l : List ℕ). l ++ m.more) p.parts ∙ append_assoc w0 p.more m.more;
  chunks = p.chunks ++ Chunk m.more ∷ [];
  takes = Takes-read p.takes (Takes-chunk part m);
}

-- Bytes that are read for a frame, and the frame, are taken one after the other.
pub Uses-takes : {a b : SourceTrace} {w0 w1 : List ℕ} {s t : ℕ} {frame : FrameValue} (m : Uses a b w0 w1 s t frame)
    → Takes a b w0 w1 (m.chunks ++ Used frame ∷ []) m.more (frame ∷ [])
Uses-takes {a} {b} {w0} {w1} {frame} m =
    subst (λ (l : List ℕ). Takes a b w0 w1 (m.chunks ++ Used frame ∷ []) l (frame ∷ [])) (append-nil m.more)
    (Takes-then m.takes (Takes-frame b (frame_text frame ++ w1) w1 frame refl))

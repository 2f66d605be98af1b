-- The times at which a session takes bytes (own).
use Rattle.std.specs.Prelude.{◌≡◌, ℕ, Bool, true, false, ◌<◌, List, [], ◌∷◌, ◌++◌, length}
use Rattle.drm_frames.specs.Grammar.{FrameValue, frame_text, IsPart}
use Rattle.drm_frames.specs.Streams.{SourceTrace}

-- the bytes that one call of the source returned, or a frame that was used
pub data ReadChunk : Type 0 where
  Chunk : List ℕ → ReadChunk
  Used : FrameValue → ReadChunk

-- From the bytes that waited, these chunks and frames lead to those that wait after. Bytes are taken only if less than
-- a frame waits: no whole frame, and no length that no frame has.
abbrev pub InTurn : List ℕ → List ReadChunk → List ℕ → Type 0
InTurn waited [] waits = waits ≡ waited
InTurn waited (Chunk bytes ∷ more) waits = IsPart waited × (0 < length bytes) × InTurn (waited ++ bytes) more waits
InTurn waited (Used frame ∷ more) waits = (rest : List ℕ) × (waited ≡ frame_text frame ++ rest) × InTurn rest more waits

-- the bytes of all chunks, in their order
abbrev pub bytes_taken : List ReadChunk → List ℕ
bytes_taken [] = []
bytes_taken (Chunk bytes ∷ more) = bytes ++ bytes_taken more
bytes_taken (Used frame ∷ more) = bytes_taken more

-- the frames that were used, in their order
abbrev pub frames_used : List ReadChunk → List FrameValue
frames_used [] = []
frames_used (Chunk bytes ∷ more) = frames_used more
frames_used (Used frame ∷ more) = frame ∷ frames_used more

-- the number of bytes of the last chunk; if there is none, of the last one before
abbrev pub last_chunk : List ReadChunk → ℕ → ℕ
last_chunk [] gave = gave
last_chunk (Chunk bytes ∷ more) gave = last_chunk more (length bytes)
last_chunk (Used frame ∷ more) gave = last_chunk more gave

-- whether bytes were taken after the last frame that was used; where there is neither, as before
abbrev pub ends_in_chunk : List ReadChunk → Bool → Bool
ends_in_chunk [] was = was
ends_in_chunk (Chunk bytes ∷ more) was = ends_in_chunk more true
ends_in_chunk (Used frame ∷ more) was = ends_in_chunk more false

-- The chunks by which these bytes were read, and the frames used between them. The source's trace says the last chunk,
-- so that no two chunks can be reported as one.
pub record Takes (from to : SourceTrace) (waited waits : List ℕ) (chunks : List ReadChunk) (read : List ℕ) (frames : List FrameValue) : Type 0 where
  pub in_turn : InTurn waited chunks waits
  pub gave : to.gave ≡ last_chunk chunks from.gave
  pub bytes : bytes_taken chunks ≡ read
  pub used : frames_used chunks ≡ frames

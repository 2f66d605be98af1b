-- The bytes that reading takes from a source into those that wait, and what writing one answer puts into a sink (own).
use Rattle.std.specs.Prelude.{◌≡◌, ◌≢◌, ◌⊎◌, ℕ, ◌+◌, ◌<◌, ◌≤◌, List, [], ◌++◌, length, Result, Ok, Err, ⊤}
use Rattle.std.specs.Io.KnownBytes.{Appends, IsAtEnd}
use Rattle.drm_frames.specs.Grammar.{FrameValue, frame_text, IsFrame, IsPart, IsTooLong}
use Rattle.drm_frames.specs.Streams.{Counts, SourceTrace, SinkTrace}
use Rattle.drm_frames.specs.Turns.{ReadCost, WriteCost, PartialWriteCost}
use Rattle.drm_frames.specs.declared.turns.Refill.{Refill}
use Rattle.drm_frames.specs.declared.turns.Refill.TheVariants as refill
use Rattle.drm_sessions.specs.ReadChunks.{ReadChunk, Takes}
use Rattle.drm_sessions.specs.declared.end.SessionEnd.{SessionEnd}
use Rattle.drm_sessions.specs.declared.end.SessionEnd.TheVariants as ends

-- Neither an end was reported nor a failure.
pub record Untold (old new : Counts) : Type 0 where
  pub ends : new.ends ≡ old.ends
  pub failures : new.failures ≡ old.failures
  pub faults : old.faults ≤ new.faults

-- One end was reported, and no failure.
pub record EndTold (old new : Counts) : Type 0 where
  pub ends : new.ends ≡ old.ends + 1
  pub failures : new.failures ≡ old.failures

-- One failure was reported, or 1,000 interruptions at least and no failure; and no end.
pub record FaultTold (old new : Counts) : Type 0 where
  pub ends : new.ends ≡ old.ends
  pub fault : (new.failures ≡ old.failures + 1) ⊎ ((new.failures ≡ old.failures) × (old.faults + 1000 ≤ new.faults))

-- the report of a source by which a session ends
abbrev pub SourceTells : SessionEnd → Counts → Counts → Type 0
SourceTells ends.Ended old new = EndTold old new
SourceTells ends.Truncated old new = EndTold old new
SourceTells ends.ReadFault old new = FaultTold old new
SourceTells _ old new = Untold old new

-- the report of a sink by which a session ends
abbrev pub SinkTells : SessionEnd → Counts → Counts → Type 0
SinkTells ends.WriteFault old new = FaultTold old new
SinkTells _ old new = Untold old new

-- At a fault of the sink its last call was handed all that isn't written of the answer.
abbrev pub HandsLater : SessionEnd → SinkTrace → List ℕ → Type 0
HandsLater ends.WriteFault to later = to.handed ≡ length later
HandsLater _ to later = ⊤

-- One call of the source returned bytes, which wait after those that waited.
pub record Gives (from to : SourceTrace) (waited waits : List ℕ) (had has : ℕ) : Type 0 where
  pub more : List ℕ
  pub spends : ReadCost from to more had has
  pub parts : waits ≡ waited ++ more
  pub some : 0 < length more
  pub gave : to.gave ≡ length more
  pub untold : Untold from.counts to.counts

-- Bytes were read from the source one after the other, each call at the cost of a turn, and wait after those that
-- waited.
pub record Comes (from to : SourceTrace) (waited waits : List ℕ) (had has : ℕ) : Type 0 where
  pub more : List ℕ
  pub spends : ReadCost from to more had has
  pub parts : waits ≡ waited ++ more
  pub chunks : List ReadChunk
  pub takes : Takes from to waited waits chunks more []

-- Bytes were read from the source one after the other, and this frame was at the front of all that waited.
pub record Uses (from to : SourceTrace) (waited waits : List ℕ) (had has : ℕ) (frame : FrameValue) : Type 0 where
  pub more : List ℕ
  pub spends : ReadCost from to more had has
  pub parts : waited ++ more ≡ frame_text frame ++ waits
  pub fits : IsFrame frame
  pub chunks : List ReadChunk
  pub takes : Takes from to waited (frame_text frame ++ waits) chunks more []
  pub untold : Untold from.counts to.counts

-- what resulted from taking bytes after those that wait
abbrev pub Supplies : Refill → SourceTrace → SourceTrace → List ℕ → List ℕ → ℕ → ℕ → Type 0
Supplies (refill.Got n) from to waited waits had has = Gives from to waited waits had has × (has < had)
Supplies refill.End from to waited waits had has =
    ReadCost from to [] had has × (waits ≡ waited) × IsAtEnd to.left × (from.counts.ends < to.counts.ends) ×
    (to.gave ≡ from.gave) × EndTold from.counts to.counts
Supplies refill.Fault from to waited waits had has =
    ReadCost from to [] had has × (waits ≡ waited) × (from.counts.faults < to.counts.faults) × (to.gave ≡ from.gave) ×
    FaultTold from.counts to.counts
Supplies refill.TurnsUsed from to waited waits had has =
    ReadCost from to [] had has × (waits ≡ waited) × (has ≡ 0) × (to.gave ≡ from.gave) × Untold from.counts to.counts

-- what waits where reading stops: never a whole frame
abbrev pub StopsAt : SessionEnd → List ℕ → Type 0
StopsAt ends.Ended waits = waits ≡ []
StopsAt ends.Truncated waits = (waits ≢ []) × IsPart waits
StopsAt ends.TooLong waits = IsTooLong waits
StopsAt ends.ReadFault waits = IsPart waits
StopsAt ends.TurnsUsed waits = IsPart waits
StopsAt ends.BadHello waits = ⊥
StopsAt (ends.OpenRefused rule) waits = ⊥
StopsAt ends.WriteFault waits = ⊥
StopsAt (ends.Apart apart) waits = ⊥

-- what the source's trace shows where reading stops
abbrev pub ReadShows : SessionEnd → SourceTrace → SourceTrace → ℕ → Type 0
ReadShows ends.Ended from to has = IsAtEnd to.left × (from.counts.ends < to.counts.ends)
ReadShows ends.Truncated from to has = IsAtEnd to.left × (from.counts.ends < to.counts.ends)
ReadShows ends.ReadFault from to has = from.counts.faults < to.counts.faults
ReadShows ends.TurnsUsed from to has = has ≡ 0
ReadShows _ from to has = ⊤

-- the message is what the next frame says, or how reading for it stopped
abbrev pub Reads : {M : Type 0} → (FrameValue → M) → M → Result ⊤ SessionEnd → SourceTrace → SourceTrace → List ℕ
    → List ℕ → ℕ → ℕ → Type 0
Reads said message (Ok _) from to waited waits had has =
    (frame : FrameValue) × Uses from to waited waits had has frame × (message ≡ said frame)
Reads said message (Err end) from to waited waits had has =
    Comes from to waited waits had has × StopsAt end waits × ReadShows end from to has × SourceTells end from.counts
    to.counts

-- what the sink's trace shows where writing stops a session
abbrev pub WriteShows : SessionEnd → SinkTrace → SinkTrace → ℕ → Type 0
WriteShows ends.WriteFault from to has = from.counts.faults < to.counts.faults
WriteShows ends.TurnsUsed from to has = has ≡ 0
WriteShows _ from to has = ⊥

-- all of the text is written, or a front of it and not the whole
abbrev pub Wrote : Result ⊤ SessionEnd → SinkTrace → SinkTrace → List ℕ → ℕ → ℕ → Type 0
Wrote (Ok _) from to text had has =
    WriteCost from to text had has × (0 < length text → has < had) × Untold from.counts to.counts
Wrote (Err end) from to text had has =
    (part : PartialWriteCost from to text had has) × WriteShows end from to has × HandsLater end to part.rest ×
    SinkTells end from.counts to.counts

-- A front of the text was written to the sink, and the later part wasn't.
pub record WritesFront (from to : SinkTrace) (text front later : List ℕ) : Type 0 where
  pub parts : text ≡ front ++ later
  pub commits : Appends from.written to.written front

-- The ends of a session's requests (own).
use Rattle.std.specs.Prelude.{◌≡◌, ℕ, Bool, true, ◌+◌, ◌<◌, ◌⊎◌, List, [], ◌∷◌, ◌++◌, length, Err, ⊤}
use Rattle.std.specs.Io.KnownBytes.{IsAtEnd}
use Rattle.drm_table.specs.declared.events.Event.{Event}
use Rattle.drm_table.specs.declared.apart.Apart.TheVariants as aparts
use Rattle.drm_frames.specs.Answers.{CallResult, answer_text}
use Rattle.drm_frames.specs.Streams.{Counts, SourceTrace, SinkTrace}
use Rattle.drm_frames.specs.Turns.{NeverFall, WriteCost, PartialWriteCost}
use Rattle.drm_sessions.specs.declared.end.SessionEnd.{SessionEnd}
use Rattle.drm_sessions.specs.declared.end.SessionEnd.TheVariants as ends
use Rattle.drm_sessions.specs.Reading.{HandsLater, WritesFront, SinkTells, SourceTells, StopsAt, Untold, WriteShows}
use Rattle.drm_sessions.specs.Runs.{Requests, session_text}

-- What wasn't written is the end of the last answer.
pub record TruncatesLastAnswer (results : List CallResult) (later : List ℕ) : Type 0 where
  pub before : List CallResult
  pub last : CallResult
  pub sent : List ℕ
  pub whole : results ≡ before ++ last ∷ []
  pub parts : answer_text last ≡ sent ++ later
  pub more : 0 < length later

-- What waits where requests end, and what of the answers wasn't written.
abbrev pub Leaves : SessionEnd → List ℕ → List CallResult → List ℕ → Type 0
Leaves ends.Ended waits results later = StopsAt ends.Ended waits × (later ≡ [])
Leaves ends.Truncated waits results later = StopsAt ends.Truncated waits × (later ≡ [])
Leaves ends.TooLong waits results later = StopsAt ends.TooLong waits × (later ≡ [])
Leaves ends.ReadFault waits results later = StopsAt ends.ReadFault waits × (later ≡ [])
Leaves ends.WriteFault waits results later = TruncatesLastAnswer results later
Leaves ends.TurnsUsed waits results later =
    (StopsAt ends.TurnsUsed waits × (later ≡ [])) ⊎ TruncatesLastAnswer results later
Leaves ends.BadHello waits results later = ⊥
Leaves (ends.OpenRefused rule) waits results later = ⊥
Leaves (ends.Apart apart) waits results later = ⊥

-- The counts of the source and of the sink moved, each call at the cost of a turn.
pub record IoCost (in0 in1 : SourceTrace) (out0 out1 : SinkTrace) (had has : ℕ) : Type 0 where
  pub each : in1.counts.calls + out1.counts.calls + has ≡ in0.counts.calls + out0.counts.calls + had
  pub source : NeverFall in0.counts in1.counts
  pub sink : NeverFall out0.counts out1.counts

-- what the traces show at an end
abbrev pub Shows : SessionEnd → SourceTrace → SourceTrace → SinkTrace → SinkTrace → ℕ → Type 0
Shows ends.Ended in0 in1 out0 out1 unused = IsAtEnd in1.left × (in0.counts.ends < in1.counts.ends)
Shows ends.Truncated in0 in1 out0 out1 unused = IsAtEnd in1.left × (in0.counts.ends < in1.counts.ends)
Shows ends.ReadFault in0 in1 out0 out1 unused = in0.counts.faults < in1.counts.faults
Shows ends.WriteFault in0 in1 out0 out1 unused = out0.counts.faults < out1.counts.faults
Shows ends.TurnsUsed in0 in1 out0 out1 unused = unused ≡ 0
Shows _ in0 in1 out0 out1 unused = ⊤

-- What source and sink reported at an end: one end or one fault, which is why the calls stop, or neither.
pub record Tells (end : SessionEnd) (in0 in1 out0 out1 : Counts) : Type 0 where
  pub source : SourceTells end in0 in1
  pub sink : SinkTells end out0 out1

-- The requests of a client up to their end, after these results were returned: what was written is a front of the text
-- of all results. Bytes were taken after the last frame only if it was all of it.
pub record Ends {A : Type 0} (answers : A → Event → CallResult → A → Type 0) (client : ℕ) (old new : A) (in0 in1 : SourceTrace) (out0 out1 : SinkTrace) (said : List CallResult) (waited : List ℕ) (steps : ℕ) (end : SessionEnd) : Type 0 where
  pub waits : List ℕ
  pub results : List CallResult
  pub front : List ℕ
  pub later : List ℕ
  pub behind : Bool
  pub did : Requests answers client old new in0 in1 waited waits results steps behind
  pub puts : WritesFront out0 out1 (session_text (said ++ results)) front later
  pub leaves : Leaves end waits (said ++ results) later
  pub prompt : behind ≡ true → later ≡ []
  pub handed : HandsLater end out1 later

-- The text of a refusal is written whole and the session ends as is meant, or writing stopped it.
abbrev pub Refuses : SessionEnd → SessionEnd → SinkTrace → SinkTrace → List ℕ → ℕ → ℕ → Type 0
Refuses meant end from to text had has = ((end ≡ meant) × WriteCost from to text had has × Untold from.counts to.counts)
    ⊎
    ((part : PartialWriteCost from to text had has) × WriteShows end from to has × HandsLater end to part.rest × SinkTells end from.counts to.counts)

-- A closing that finds the ticket counter exhausted is the end.
abbrev pub EndsClosed : SessionEnd → CallResult → SessionEnd → Type 0
EndsClosed stopped (Err aparts.Worn) end = end ≡ ends.Apart aparts.Worn
EndsClosed stopped _ end = end ≡ stopped

-- What source and sink reported at the end of a session, which is how its calls stopped, or that its closing found the
-- ticket counter exhausted.
pub record TellsStop (end : SessionEnd) (in0 in1 out0 out1 : Counts) : Type 0 where
  pub stopped : SessionEnd
  pub same : (end ≡ stopped) ⊎ (end ≡ ends.Apart aparts.Worn)
  pub tells : Tells stopped in0 in1 out0 out1

-- ---- the ends of a session by how its opening was answered

-- the ends of a client's requests
abbrev pub EndsRequests : SessionEnd → Type 0
EndsRequests ends.BadHello = ⊥
EndsRequests (ends.OpenRefused rule) = ⊥
EndsRequests (ends.Apart apart) = ⊥
EndsRequests _ = ⊤

-- the ends without an opening
abbrev pub EndsUnopened : SessionEnd → Type 0
EndsUnopened (ends.OpenRefused rule) = ⊥
EndsUnopened (ends.Apart apart) = ⊥
EndsUnopened ends.WriteFault = ⊥
EndsUnopened _ = ⊤

-- the ends by a text that isn't written whole
abbrev pub EndsWriting : SessionEnd → Type 0
EndsWriting ends.WriteFault = ⊤
EndsWriting ends.TurnsUsed = ⊤
EndsWriting _ = ⊥

-- A refusal ends the session as is meant, where its text is written whole.
abbrev pub EndsRefused : SessionEnd → List ℕ → SessionEnd → Type 0
EndsRefused meant later end = ((end ≡ meant) × (later ≡ [])) ⊎ (EndsWriting end × (0 < length later))

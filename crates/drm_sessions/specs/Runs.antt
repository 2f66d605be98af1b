-- The calls that a session makes, in their order (own).
use Rattle.std.specs.Prelude.{◌≡◌, ℕ, Bool, false, ◌+◌, List, [], ◌∷◌, ◌++◌, map, Ok, Err}
use Rattle.std.specs.List.{flat_map, AllByRecursion}
use Rattle.std.specs.Io.KnownBytes.{Consumes}
use Rattle.drm_table.specs.declared.events.Event.{Event}
use Rattle.drm_table.specs.declared.events.Event.TheVariants.{Ask}
use Rattle.drm_frames.specs.Grammar.{FrameValue, frame_text, IsFrame}
use Rattle.drm_frames.specs.Requests.{request_of}
use Rattle.drm_frames.specs.Answers.{CallResult, answer_text}
use Rattle.drm_frames.specs.Streams.{SourceTrace}
use Rattle.drm_sessions.specs.ReadChunks.{ReadChunk, Takes, ends_in_chunk}

-- an event and what it was answered
pub record RequestReply : Type 0 where
  pub event : Event
  pub outcome : CallResult

-- a call with its result
abbrev pub request_reply : Event → CallResult → RequestReply
request_reply event outcome = record { event = event; outcome = outcome }

-- From `old` these calls lead to `new`, one after the other.
abbrev pub Runs : {A : Type 0} → (A → Event → CallResult → A → Type 0) → A → List RequestReply → A → Type 0
Runs answers old [] new = new ≡ old
Runs {A = A} answers old (call ∷ log) new =
    (mid : A) × answers old call.event call.outcome mid × Runs answers mid log new

-- what the client asks by a frame
abbrev pub asked : ℕ → FrameValue → Event
asked client frame = Ask client (request_of frame)

-- the events of calls, in their order
abbrev pub events : List RequestReply → List Event
events log = map (λ call. call.event) log

-- the results of calls, in their order
abbrev pub outcomes : List RequestReply → List CallResult
outcomes log = map (λ call. call.outcome) log

-- the bytes of a session's results
abbrev pub session_text : List CallResult → List ℕ
session_text results = flat_map answer_text results

-- how many of the results are recorded in the journal
abbrev pub one_if_journaled : CallResult → ℕ
one_if_journaled (Ok answer) = 1
one_if_journaled (Err apart) = 0

-- the number of results that the journal records
abbrev pub journaled : List CallResult → ℕ
journaled [] = 0
journaled (result ∷ results) = one_if_journaled result + journaled results

-- A client's requests. Of the bytes that waited and those that were read, these frames were used, each for the call
-- that it asks. `results` are the answers of the calls. `behind` says whether bytes were taken after the last of the
-- frames.
pub record Requests {A : Type 0} (answers : A → Event → CallResult → A → Type 0) (client : ℕ) (old new : A) (from to : SourceTrace) (waited waits : List ℕ) (results : List CallResult) (steps : ℕ) (behind : Bool) : Type 0 where
  pub read : List ℕ
  pub frames : List FrameValue
  pub log : List RequestReply
  pub taken : Consumes from.left to.left read
  pub parts : waited ++ read ≡ flat_map frame_text frames ++ waits
  pub fit : AllByRecursion IsFrame frames
  pub made : Runs answers old log new
  pub asks : events log ≡ map (asked client) frames
  pub answered : outcomes log ≡ results
  pub counted : journaled results ≡ steps
  pub chunks : List ReadChunk
  pub takes : Takes from to waited waits chunks read frames
  pub last : ends_in_chunk chunks false ≡ behind

-- A session on a device that no other session uses (own).
use Rattle.std.specs.Prelude.{◌≡◌, ℕ, ◌⊎◌, List, [], ◌∷◌, ◌++◌, map, Option, Some, None, Ok, Err, ⊤}
use Rattle.std.specs.List.{AllByRecursion}
use Rattle.drm_table.specs.declared.events.Event.{Event}
use Rattle.drm_table.specs.declared.events.Event.TheVariants.{Open}
use Rattle.drm_table.specs.declared.events.Opening.{Opening}
use Rattle.drm_table.specs.declared.answers.Answer.TheVariants.{Opened}
use Rattle.drm_table.specs.declared.apart.Apart.TheVariants.{NoMemory}
use Rattle.drm_model.specs.Rows.{Rows}
use Rattle.drm_model.specs.Run.{DeviceValue, Answers, no_room, journaled_events, rows_of}
use Rattle.drm_model.specs.Results.{result_by, results}
use Rattle.drm_turns.specs.Turns.{DeviceSteps}
use Rattle.drm_frames.specs.Answers.{CallResult}
use Rattle.drm_frames.specs.Grammar.{FrameValue}
use Rattle.drm_frames.specs.Streams.{SourceTrace, SinkTrace}
use Rattle.drm_sessions.specs.declared.class.Class.{Class}
use Rattle.drm_sessions.specs.declared.end.Session.{Session}
use Rattle.drm_sessions.specs.declared.end.SessionEnd.{SessionEnd}
use Rattle.drm_sessions.specs.declared.end.SessionEnd.TheVariants as ends
use Rattle.drm_sessions.specs.Opening.{opening_in}
use Rattle.drm_sessions.specs.Runs.{asked, events, outcomes}
use Rattle.drm_sessions.specs.Gates.{LetsAllPass}
use Rattle.drm_sessions.specs.Serving.{Serves, calls_made}

-- the history with these events more
abbrev pub journaled_all : DeviceValue → List Event → DeviceValue
journaled_all h more = record h { journal = h.journal ++ more }

-- A session on a device alone: its results are what the device answers from its rows, and the journal has its recorded
-- events more. The gate was called once for each request.
pub record ServesAlone {G : Type 0} (passes : G → ℕ → G → Type 0) (class : Class) (gate0 gate1 : G) (old new : DeviceValue) (in0 in1 : SourceTrace) (out0 out1 : SinkTrace) (session : Session) : Type 0 where
  pub serves : Serves DeviceSteps class old new in0 in1 out0 out1 session
  pub gated : LetsAllPass passes gate0 (calls_made serves) gate1
  pub answers : Answers (rows_of old) (events (serves.answered ++ serves.closing)) (outcomes (serves.answered ++ serves.closing)) (rows_of new)
  pub history : new ≡ journaled_all old (journaled_events (events (serves.answered ++ serves.closing)) (outcomes (serves.answered ++ serves.closing)))

-- ---- where no memory is wanting, the results are computed from the rows and the frames

-- the result is not that memory was refused
abbrev pub HasMemory : CallResult → Type 0
HasMemory (Err NoMemory) = ⊥
HasMemory _ = ⊤

-- the result of one event
abbrev pub result_of : Rows → Event → CallResult
result_of w event = result_by (no_room w event) w event

-- the requests that follow an opening with this result
abbrev pub asks_after : CallResult → List FrameValue → List Event
asks_after (Ok (Opened client)) frames = map (asked client) frames
asks_after _ frames = []

-- the results of a session, computed from the rows
abbrev pub results_from : Rows → Option Opening → List FrameValue → List CallResult
results_from w None frames = []
results_from w (Some opening) frames = results w (Open opening ∷ asks_after (result_of w (Open opening)) frames)

-- the results of a session over whole frames: of the hello's opening, and of its client's requests
abbrev pub session_results : Rows → Class → List FrameValue → List CallResult
session_results w class [] = []
session_results w class (hello ∷ frames) = results_from w (opening_in class hello) frames

-- ---- two sessions over the same bytes

-- a session on a device: the values before and after, how it ended and what it did
pub record DeviceSession (class : Class) : Type 0 where
  pub before : DeviceValue
  pub after : DeviceValue
  pub in0 : SourceTrace
  pub in1 : SourceTrace
  pub out0 : SinkTrace
  pub out1 : SinkTrace
  pub session : Session
  pub did : Serves DeviceSteps class before after in0 in1 out0 out1 session

-- They begin with the same rows and read the same bytes, and no memory is wanting.
pub record HaveSameInput {class : Class} (one other : DeviceSession class) : Type 0 where
  pub rows : rows_of one.before ≡ rows_of other.before
  pub read : one.did.read ≡ other.did.read
  pub memory_of_one : AllByRecursion HasMemory (outcomes one.did.answered)
  pub memory_of_other : AllByRecursion HasMemory (outcomes other.did.answered)

-- One of the lists begins the other.
abbrev pub OneBegins : {A : Type 0} → List A → List A → Type 0
OneBegins {A = A} xs ys = ((more : List A) × (ys ≡ xs ++ more)) ⊎ ((more : List A) × (xs ≡ ys ++ more))

-- the ends at which all whole frames that were read are used
abbrev pub IsReadOut : SessionEnd → Type 0
IsReadOut ends.Ended = ⊤
IsReadOut ends.Truncated = ⊤
IsReadOut ends.TooLong = ⊤
IsReadOut ends.ReadFault = ⊤
IsReadOut _ = ⊥

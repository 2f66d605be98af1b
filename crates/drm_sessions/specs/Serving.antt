-- A whole session (own).
use Rattle.std.specs.Prelude.{◌≡◌, ℕ, true, false, ◌⊎◌, ◌+◌, List, [], ◌∷◌, ◌++◌, map, Some, None, Ok, Err, ⊤}
use Rattle.std.specs.List.{flat_map, AllByRecursion}
use Rattle.std.specs.Io.KnownBytes.{Consumes}
use Rattle.drm_table.specs.declared.events.Event.{Event}
use Rattle.drm_table.specs.declared.events.Event.TheVariants.{Open, Close}
use Rattle.drm_table.specs.declared.events.Opening.{Opening}
use Rattle.drm_table.specs.declared.answers.Answer.TheVariants.{Opened, Denied}
use Rattle.drm_table.specs.declared.apart.Apart.TheVariants.{Worn}
use Rattle.drm_frames.specs.Grammar.{FrameValue, frame_text, IsFrame}
use Rattle.drm_frames.specs.Streams.{SourceTrace, SinkTrace}
use Rattle.drm_frames.specs.Answers.{CallResult}
use Rattle.drm_sessions.specs.declared.class.Class.{Class}
use Rattle.drm_sessions.specs.declared.end.Session.{Session}
use Rattle.drm_sessions.specs.declared.end.SessionEnd.{SessionEnd}
use Rattle.drm_sessions.specs.declared.end.SessionEnd.TheVariants as ends
use Rattle.drm_sessions.specs.Opening.{opening_in}
use Rattle.drm_sessions.specs.ReadChunks.{ReadChunk, Takes, ends_in_chunk}
use Rattle.drm_sessions.specs.Reading.{HandsLater, WritesFront, StopsAt}
use Rattle.drm_sessions.specs.Runs.{RequestReply, request_reply, Runs, asked, events, outcomes, session_text, journaled}
use Rattle.drm_sessions.specs.Ends.{TruncatesLastAnswer, EndsClosed, EndsRefused, EndsRequests, EndsUnopened, IoCost, Shows, TellsStop}

-- After the opening: of a client its requests and one closing, and else nothing.
abbrev pub Follows : CallResult → List FrameValue → List RequestReply → List RequestReply → ℕ → Type 0
Follows (Ok (Opened c)) frames asks closing client =
    (events asks ≡ map (asked c) frames) × ((result : CallResult) × (closing ≡ request_reply (Close c) result ∷ [])) ×
    (client ≡ c)
Follows _ frames asks closing client = (frames ≡ []) × (asks ≡ []) × (closing ≡ []) × (client ≡ 0)

-- The calls that a session makes of its frames: those whose answers it writes, and the closing.
abbrev pub Makes : Class → List FrameValue → List RequestReply → List RequestReply → ℕ → Type 0
Makes class [] answered closing client = (answered ≡ []) × (closing ≡ []) × (client ≡ 0)
Makes class (hello ∷ frames) answered closing client =
    (opening : Opening) × (result : CallResult) × (asks : List RequestReply)
    × (opening_in class hello ≡ Some opening) × (answered ≡ request_reply (Open opening) result ∷ asks) × Follows result
    frames asks closing client

-- The bytes begin with a frame that is no hello, or not one of this class.
abbrev pub IsNoHello : Class → List ℕ → Type 0
IsNoHello class rest =
    (frame : FrameValue) × (more : List ℕ) × (rest ≡ frame_text frame ++ more) × IsFrame frame ×
    (opening_in class frame ≡ None)

-- Each end has its cause: in the bytes that were read and not used, in what wasn't written, or in what the
-- opening or the closing was answered. All answers were written, but where writing stopped in the last.
abbrev pub EndCondition : SessionEnd → Class → List ℕ → List RequestReply → List RequestReply → List ℕ → Type 0
EndCondition ends.Ended class rest answered closing later = StopsAt ends.Ended rest × (later ≡ [])
EndCondition ends.Truncated class rest answered closing later = StopsAt ends.Truncated rest × (later ≡ [])
EndCondition ends.TooLong class rest answered closing later = StopsAt ends.TooLong rest × (later ≡ [])
EndCondition ends.ReadFault class rest answered closing later = StopsAt ends.ReadFault rest × (later ≡ [])
EndCondition ends.BadHello class rest answered closing later = IsNoHello class rest × (answered ≡ []) × (later ≡ [])
EndCondition (ends.OpenRefused rule) class rest answered closing later =
    ((opening : Opening) × (answered ≡ request_reply (Open opening) (Ok (Denied rule)) ∷ [])) × (later ≡ [])
EndCondition (ends.Apart apart) class rest answered closing later =
    (((opening : Opening) × (answered ≡ request_reply (Open opening) (Err apart) ∷ [])) × (later ≡ []))
    ⊎
    (((client : ℕ) × (closing ≡ request_reply (Close client) (Err apart) ∷ [])) × (apart ≡ Worn) × ((later ≡ []) ⊎ TruncatesLastAnswer (outcomes answered) later))
EndCondition ends.WriteFault class rest answered closing later = TruncatesLastAnswer (outcomes answered) later
EndCondition ends.TurnsUsed class rest answered closing later =
    (StopsAt ends.TurnsUsed rest × (later ≡ [])) ⊎ TruncatesLastAnswer (outcomes answered) later

-- The answer to the opening decides how the session ends. An accepted one ends as the requests did, or with an
-- exhausted ticket counter if the closing found it so. A denied one ends as refused by its rule, and one with a fault
-- by that, unless the answer wasn't written whole.
abbrev pub EndsAfter : CallResult → List RequestReply → List ℕ → SessionEnd → Type 0
EndsAfter (Ok (Opened c)) closing later end =
    (result : CallResult) × (stopped : SessionEnd) × (closing ≡ request_reply (Close c) result ∷ []) × EndsRequests stopped × EndsClosed stopped result end
EndsAfter (Ok (Denied rule)) closing later end = EndsRefused (ends.OpenRefused rule) later end
EndsAfter (Err apart) closing later end = EndsRefused (ends.Apart apart) later end
EndsAfter (Ok _) closing later end = ⊥

-- the end of a session, by the results of its opening and its calls
abbrev pub EndsAs : List RequestReply → List RequestReply → List ℕ → SessionEnd → Type 0
EndsAs [] closing later end = EndsUnopened end
EndsAs (first ∷ asks) closing later end = EndsAfter first.outcome closing later end

-- the opening was accepted
abbrev pub IsAccepted : CallResult → Type 0
IsAccepted (Ok (Opened c)) = ⊤
IsAccepted _ = ⊥

-- Bytes are taken after a frame that was used where the opening was accepted and each answer so far is written whole.
abbrev pub MayRead : List RequestReply → List ℕ → Type 0
MayRead [] later = ⊤
MayRead (first ∷ asks) later = IsAccepted first.outcome × (later ≡ [])

-- A session. Of the bytes that it read, one after the other, these whole frames were used, and the rest was not. Its
-- calls follow from the frames. What it wrote is a front of the text of their results.
pub record Serves {A : Type 0} (answers : A → Event → CallResult → A → Type 0) (class : Class) (old new : A) (in0 in1 : SourceTrace) (out0 out1 : SinkTrace) (session : Session) : Type 0 where
  pub read : List ℕ
  pub frames : List FrameValue
  pub rest : List ℕ
  pub answered : List RequestReply
  pub closing : List RequestReply
  pub front : List ℕ
  pub later : List ℕ
  pub taken : Consumes in0.left in1.left read
  pub parts : read ≡ flat_map frame_text frames ++ rest
  pub fit : AllByRecursion IsFrame frames
  pub made : Runs answers old (answered ++ closing) new
  pub makes : Makes class frames answered closing session.client
  pub counted : journaled (outcomes (answered ++ closing)) ≡ session.steps
  pub puts : WritesFront out0 out1 (session_text (outcomes answered)) front later
  pub end_condition : EndCondition session.end class rest answered closing later
  pub ended : EndsAs answered closing later session.end
  pub chunks : List ReadChunk
  pub in_turn : Takes in0 in1 [] rest chunks read frames
  pub prompt : ends_in_chunk chunks false ≡ true → MayRead answered later
  pub handed : HandsLater session.end out1 later

-- the same from the opening on, with bytes that wait
pub record Continues {A : Type 0} (answers : A → Event → CallResult → A → Type 0) (class : Class) (opening : Opening) (old new : A) (in0 in1 : SourceTrace) (out0 out1 : SinkTrace) (waited : List ℕ) (session : Session) : Type 0 where
  pub read : List ℕ
  pub frames : List FrameValue
  pub rest : List ℕ
  pub result : CallResult
  pub asks : List RequestReply
  pub closing : List RequestReply
  pub front : List ℕ
  pub later : List ℕ
  pub taken : Consumes in0.left in1.left read
  pub parts : waited ++ read ≡ flat_map frame_text frames ++ rest
  pub fit : AllByRecursion IsFrame frames
  pub made : Runs answers old ((request_reply (Open opening) result ∷ asks) ++ closing) new
  pub follows : Follows result frames asks closing session.client
  pub counted : journaled (outcomes ((request_reply (Open opening) result ∷ asks) ++ closing)) ≡ session.steps
  pub puts : WritesFront out0 out1 (session_text (outcomes (request_reply (Open opening) result ∷ asks))) front later
  pub end_condition : EndCondition session.end class rest (request_reply (Open opening) result ∷ asks) closing later
  pub ended : EndsAfter result closing later session.end
  pub chunks : List ReadChunk
  pub in_turn : Takes in0 in1 waited rest chunks read frames
  pub prompt : ends_in_chunk chunks false ≡ true → IsAccepted result × (later ≡ [])
  pub handed : HandsLater session.end out1 later

-- the calls that a session made, in their order
abbrev pub calls_made : {A : Type 0} {answers : A → Event → CallResult → A → Type 0} {class : Class} {old new : A} {in0 in1 : SourceTrace} {out0 out1 : SinkTrace} {session : Session}
    → Serves answers class old new in0 in1 out0 out1 session → List Event
calls_made serves = events (serves.answered ++ serves.closing)

-- how many events of all these sessions the device recorded
abbrev pub all_steps : List Session → ℕ
all_steps [] = 0
all_steps (session ∷ sessions) = session.steps + all_steps sessions

-- At most `turns` calls were made of the source and the sink, and the traces show the end's cause. If one of them
-- reported an end or a fault, that was the last call, and no other was made of either.
pub record Costs (in0 in1 : SourceTrace) (out0 out1 : SinkTrace) (turns : ℕ) (end : SessionEnd) : Type 0 where
  pub unused : ℕ
  pub moves : IoCost in0 in1 out0 out1 turns unused
  pub shows : Shows end in0 in1 out0 out1 unused
  pub tells : TellsStop end in0.counts in1.counts out0.counts out1.counts

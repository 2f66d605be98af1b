-- A session on a device that it shares with others (own).
use Rattle.std.specs.Prelude.{◌≡◌, ℕ, ◌+◌, IfOk, IfErr, Ok, Err, List, [], ◌∷◌, ◌++◌, length}
use Rattle.std.specs.List.{AllByRecursion, flat_map}
use Rattle.drm_table.specs.declared.events.Event.{Event}
use Rattle.drm_model.specs.Run.{DeviceValue}
use Rattle.drm_turns.specs.declared.history.Entry.{Entry}
use Rattle.drm_turns.specs.History.{StartsWith, device_at, entry}
use Rattle.drm_turns.specs.Participants.{Commits, Aborts, Extends, Same, ParticipantView, Unchanged, entries_of}
use Rattle.drm_turns.specs.Turns.{Answered}
use Rattle.drm_frames.specs.Answers.{CallResult}
use Rattle.drm_frames.specs.Streams.{SourceTrace, SinkTrace}
use Rattle.drm_sessions.specs.declared.class.Class.{Class}
use Rattle.drm_sessions.specs.declared.end.Session.{Session}
use Rattle.drm_sessions.specs.Runs.{RequestReply}
use Rattle.drm_sessions.specs.Serving.{Serves}

-- The event had its turn of the device, or there was no ticket for one. The answer ends the history that the
-- participant has then seen, as one of its entries. Otherwise no entry is the participant's that wasn't before.
pub record TakesTurn (old : ParticipantView) (event : Event) (result : CallResult) (new : ParticipantView) : Type 0 where
  pub extends : Extends old new
  pub merged : new.merged ≡ old.merged
  pub unchanged : Unchanged old new
  pub ok : IfOk result (λ answer. Commits old event answer new)
  pub err : IfErr result (λ apart. Aborts old event apart new)
  pub turn : Answered (device_at new.origin new.seen) event result
  pub journaled : new.journaled ≡ old.journaled + entries_of result

-- the entry of a call that was recorded, by the participant of this number
abbrev pub journaled_by : ℕ → Event → CallResult → List Entry
journaled_by number event (Ok answer) = entry number event answer ∷ []
journaled_by number event (Err apart) = []

-- the recorded events of these calls with their answers, in their order
abbrev pub entries_by : ℕ → List RequestReply → List Entry
entries_by number log = flat_map (λ call. journaled_by number call.event call.outcome) log

-- A session through a participant of a shared device. Each of its results is what the device answered in a turn. The
-- participant's own entries are those that it had and those of the session, one for each of its steps.
pub record ServesShared (class : Class) (old new : ParticipantView) (in0 in1 : SourceTrace) (out0 out1 : SinkTrace) (session : Session) : Type 0 where
  pub serves : Serves TakesTurn class old new in0 in1 out0 out1 session
  pub turns : AllByRecursion (λ call. (device : DeviceValue) × Answered device call.event call.outcome) (serves.answered ++ serves.closing)
  pub same : Same old new
  pub merged : new.merged ≡ old.merged
  pub unchanged : Unchanged old new
  pub seen : StartsWith new.seen old.seen
  pub mine : new.mine ≡ old.mine ++ entries_by old.number (serves.answered ++ serves.closing)
  pub steps : length new.mine ≡ length old.mine + session.steps
  pub journaled : new.journaled ≡ old.journaled + session.steps

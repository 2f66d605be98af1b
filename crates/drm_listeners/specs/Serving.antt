-- The sessions of three listeners (own).
use Rattle.std.specs.Prelude.{◌≡◌, ℕ, ◌+◌, All, List, length, take, drop}
use Rattle.std.specs.List.{AllByRecursion}
use Rattle.drm_model.specs.Run.{DeviceValue}
use Rattle.drm_turns.specs.declared.history.Entry.{Entry}
use Rattle.drm_turns.specs.History.{AllDiffer, IsLegal, StartsWith, calls_by, device_at, journaled_before}
use Rattle.drm_turns.specs.Participants.{HasSeen, ParticipantView, numbers_of}
use Rattle.drm_sessions.specs.declared.class.Class.{Class}
use Rattle.drm_sessions.specs.declared.end.Session.{Session}
use Rattle.drm_sessions.specs.declared.class.Class.TheVariants.{Card, Render, Root}
use Rattle.drm_connections.specs.declared.counts.Counts.{Counts}
use Rattle.drm_listeners.specs.Connections.{IsSessionBy, IsSessionOf, SessionState, participants_in, sessions_in}

-- how many connections there are in all
abbrev pub connections : Counts → ℕ
connections counts = counts.cards + counts.renders + counts.roots

-- the sessions of each class, where those of cards come first, then those of renders, then those of roots
abbrev pub card_sessions : {A : Type 0} → Counts → List A → List A
card_sessions counts sessions = take counts.cards sessions

-- the sessions of `render`
abbrev pub render_sessions : {A : Type 0} → Counts → List A → List A
render_sessions counts sessions = take counts.renders (drop counts.cards sessions)

-- the sessions of `root`
abbrev pub root_sessions : {A : Type 0} → Counts → List A → List A
root_sessions counts sessions = drop (counts.cards + counts.renders) sessions

-- As many sessions as there were connections, each of its class.
pub record AreSessionsOf (counts : Counts) (sessions : List Session) : Type 0 where
  pub count : length sessions ≡ connections counts
  pub cards : All (IsSessionOf Card) (card_sessions counts sessions)
  pub renders : All (IsSessionOf Render) (render_sessions counts sessions)
  pub roots : All (IsSessionOf Root) (root_sessions counts sessions)

-- ---- the history of all sessions

-- the session is one of this class, through its participant
abbrev pub IsBy : Class → SessionState → Type 0
IsBy class sitting = IsSessionBy class sitting.participant sitting.session

-- Each session was of its class, through a participant with its own number, and this participant has seen what that had
-- seen.
pub record HaveSat (counts : Counts) (participant : ParticipantView) (sessions : List Session) : Type 0 where
  pub sittings : List SessionState
  pub are : sessions ≡ sessions_in sittings
  pub cards : All (IsBy Card) (card_sessions counts sittings)
  pub renders : All (IsBy Render) (render_sessions counts sittings)
  pub roots : All (IsBy Root) (root_sessions counts sittings)
  pub seen : AllByRecursion (HasSeen participant) (participants_in sittings)
  pub differ : AllDiffer (numbers_of (participants_in sittings))

-- The history has the steps of a session of this class, as the entries of its participant's number in what that had seen.
pub record IsTold (log : List Entry) (class : Class) (sitting : SessionState) : Type 0 where
  pub by : IsBy class sitting
  pub seen : StartsWith log sitting.participant.seen
  pub own : calls_by sitting.participant.number sitting.participant.seen ≡ sitting.participant.mine
  pub steps : length (calls_by sitting.participant.number sitting.participant.seen) ≡ sitting.session.steps

-- One legal history, of which the device has the events. It begins with what the device had recorded before. It has
-- each session, as one of its class, under numbers that differ.
pub record IsHistoryOf (counts : Counts) (before after : DeviceValue) (sessions : List Session) : Type 0 where
  pub log : List Entry
  pub device : after ≡ device_at before log
  pub legal : IsLegal before log
  pub begins : StartsWith log (journaled_before before)
  pub sittings : List SessionState
  pub are : sessions ≡ sessions_in sittings
  pub cards : All (IsTold log Card) (card_sessions counts sittings)
  pub renders : All (IsTold log Render) (render_sessions counts sittings)
  pub roots : All (IsTold log Root) (root_sessions counts sittings)
  pub differ : AllDiffer (numbers_of (participants_in sittings))

-- The device has the events of a legal history that begins with what it had recorded before.
pub record Continues (before after : DeviceValue) : Type 0 where
  pub log : List Entry
  pub device : after ≡ device_at before log
  pub legal : IsLegal before log
  pub begins : StartsWith log (journaled_before before)

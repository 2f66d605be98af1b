-- The sessions of the connections that a listener accepted (own).
use Rattle.std.specs.Prelude.{◌≡◌, ℕ, List, [], map, ⊤}
use Rattle.atomic_table.specs.Seated.{TableId}
use Rattle.drm_turns.specs.Participants.{Same, ParticipantView, Unchanged}
use Rattle.drm_frames.specs.Streams.{SourceTrace, SinkTrace, no_calls}
use Rattle.drm_sessions.specs.declared.class.Class.{Class}
use Rattle.drm_sessions.specs.declared.end.Session.{Session}
use Rattle.drm_sessions.specs.declared.through.Served.{Served}
use Rattle.drm_sessions.specs.Serving.{Costs}
use Rattle.drm_sessions.specs.Shared.{ServesShared}
use Rattle.drm_listeners.specs.declared.serve_faults.ServeFault.{ServeFault}
use Rattle.drm_listeners.specs.declared.serve_faults.ServeFault.TheVariants as faults

-- how many reads and writes the session of a connection makes at most (own)
abbrev pub connection_turns : ℕ
connection_turns = 1000000

-- A session of a connection on a listener of this class, from a source and into a sink that were not used before. Its
-- participant of the shared device had made nothing, and is left as `participant`.
pub record IsSessionBy (class : Class) (participant : ParticipantView) (session : Session) : Type 0 where
  pub in0 : SourceTrace
  pub in1 : SourceTrace
  pub out0 : SinkTrace
  pub out1 : SinkTrace
  pub own : ParticipantView
  pub unread : in0.counts ≡ no_calls
  pub unwritten : out0.counts ≡ no_calls
  pub nothing_made : own.mine ≡ []
  pub nothing_journaled : own.journaled ≡ 0
  pub serves : ServesShared class own participant in0 in1 out0 out1 session
  pub costs : Costs in0 in1 out0 out1 connection_turns session.end

-- the same, through some participant
abbrev pub IsSessionOf : Class → Session → Type 0
IsSessionOf class session = (participant : ParticipantView) × IsSessionBy class participant session

-- A session of this class was served through the participant, which took in no other and has those that were split off it.
abbrev pub IsServedBy : Class → ParticipantView → Served → Type 0
IsServedBy class participant served = IsSessionBy class served.participant served.session
    × Same participant served.participant × (served.participant.merged ≡ []) × Unchanged participant served.participant

-- a session, and its participant as the session left it
pub record SessionState : Type 0 where
  pub participant : ParticipantView
  pub session : Session

-- the participants of sessions, in their order
abbrev pub participants_in : List SessionState → List ParticipantView
participants_in sittings = map (λ sitting. sitting.participant) sittings

-- the sessions, in their order
abbrev pub sessions_in : List SessionState → List Session
sessions_in sittings = map (λ sitting. sitting.session) sittings

-- a participant of this shared device that has made nothing and taken in no other
abbrev pub IsFresh : TableId → ParticipantView → Type 0
IsFresh table participant =
    (participant.table ≡ table) × (participant.mine ≡ []) × (participant.merged ≡ []) × (participant.journaled ≡ 0)

-- the faults of a listener's connections: of no other listener, not of the turn, and none for lack of memory for lists
abbrev pub IsFaultOf : Class → ServeFault → Type 0
IsFaultOf class (faults.Accept other) = other ≡ class
IsFaultOf class faults.NoThread = ⊤
IsFaultOf class faults.NoMemory = ⊥
IsFaultOf class faults.TurnOut = ⊥

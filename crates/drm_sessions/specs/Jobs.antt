-- A job and its result (own).
use Rattle.std.specs.Prelude.{ℕ, ◌+◌, ◌^◌, ◌<◌, List, map}
use Rattle.drm_turns.specs.Participants.{IsSplitOff, ParticipantView}
use Rattle.drm_frames.specs.Streams.{SourceTrace, SinkTrace}
use Rattle.drm_sessions.specs.declared.end.Session.{Session}
use Rattle.drm_sessions.specs.declared.jobs.Job.{Job}
use Rattle.drm_sessions.specs.declared.jobs.Finished.{Finished}
use Rattle.drm_sessions.specs.Gates.{LetsAllPass}
use Rattle.drm_sessions.specs.Serving.{Costs, calls_made}
use Rattle.drm_sessions.specs.Shared.{ServesShared}

-- The calls of each side, with the job's turns, can be counted.
pub record HasTurns {G S K : Type 0} (source_trace : S → SourceTrace) (sink_trace : K → SinkTrace) (job : Job G S K) : Type 0 where
  pub source : (source_trace job.source).counts.calls + job.turns < 2 ^ 48
  pub sink : (sink_trace job.sink).counts.calls + job.turns < 2 ^ 48

-- The job was served through this participant, from its source and into its sink, and its gate was called once for each request.
pub record IsServed {G S K : Type 0} (passes : G → ℕ → G → Type 0) (source_trace : S → SourceTrace) (sink_trace : K → SinkTrace) (participant : ParticipantView) (job : Job G S K) (finished : Finished S K) : Type 0 where
  pub serves : ServesShared job.class participant finished.participant.value (source_trace job.source) (source_trace finished.source) (sink_trace job.sink) (sink_trace finished.sink) finished.session
  pub gated : (gate : G) × LetsAllPass passes job.gate (calls_made serves.serves) gate
  pub costs : Costs (source_trace job.source) (source_trace finished.source) (sink_trace job.sink) (sink_trace finished.sink) job.turns finished.session.end

-- The job was served through a participant that was split off this one.
pub record IsServedBeside {G S K : Type 0} (passes : G → ℕ → G → Type 0) (source_trace : S → SourceTrace) (sink_trace : K → SinkTrace) (participant : ParticipantView) (job : Job G S K) (finished : Finished S K) : Type 0 where
  pub own : ParticipantView
  pub split : IsSplitOff participant own
  pub served : IsServed passes source_trace sink_trace own job finished

-- the jobs' sessions
abbrev pub sessions_of : {S K : Type 0} → List (Finished S K) → List Session
sessions_of finished = map (λ one. one.session) finished

-- the jobs' participants, as each ended
abbrev pub participants_of : {S K : Type 0} → List (Finished S K) → List ParticipantView
participants_of sessions = map (λ finished. finished.participant.value) sessions

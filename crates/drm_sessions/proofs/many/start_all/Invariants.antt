use Rattle.std.proofs.Common.{◌≡◌, ◌+◌, ◌≤◌, length}
use Rattle.std.specs.Prelude.{All}
use Rattle.std.specs.Vec.{vec_capacity}
use Rattle.drm_turns.specs.Participants.{IsChild, IsSplitOff, with_outstanding}
use Rattle.drm_sessions.specs.Jobs.{HasTurns}
use Rattle.drm_sessions.specs.Matched.{Matched}
use Rattle.drm_sessions.proofs.many.start_all.Given as goal

-- the threads so far serve the jobs so far through participants that were split off, and there is room for those of the jobs to come
abbrev pub invariant-loop-job : goal.invariant-loop-job
invariant-loop-job g l = record {
  can : (goal.iterator-loop-job g).can_next l.job-iterator;
  ends : (goal.iterator-loop-job g).is_finite l.job-iterator;
  own : l.own ≡ with_outstanding l.initial.own l.own.outstanding;
  outstanding : l.own.outstanding ≡ l.initial.own.outstanding + length l.handles.items;
  turns : All (λ job. HasTurns g.S.Source.trace g.K.Sink.trace job) l.job-iterator.rest.items;
  started : Matched (λ job handle. handle.promise.job.value ≡ job) l.yielded l.handles.items;
  split : All (λ handle. IsSplitOff l.initial.own handle.promise.participant.value) l.handles.items;
  children : All (λ handle. IsChild l.initial.own handle.promise.participant.value) l.handles.items;
  room : length l.handles.items + length l.job-iterator.rest.items ≤ vec_capacity l.handles;
}

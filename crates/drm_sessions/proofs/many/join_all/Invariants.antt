use Rattle.std.proofs.Common.{◌≡◌, ◌+◌, ◌-◌, ◌≤◌, All, length}
use Rattle.std.specs.Vec.{vec_capacity}
use Rattle.drm_turns.specs.Participants.{HasTakenIn, IsChild, IsSplitOff, Same}
use Rattle.drm_sessions.specs.Serving.{all_steps}
use Rattle.drm_sessions.specs.Jobs.{IsServed, participants_of, sessions_of}
use Rattle.drm_sessions.specs.Matched.{Matched}
use Rattle.drm_sessions.proofs.many.join_all.Given as goal

-- the sessions so far are those of the threads so far, whose participants were taken in, and there is room for the others
abbrev pub invariant-loop-handle : goal.invariant-loop-handle
invariant-loop-handle g l = record {
  can : (goal.iterator-loop-handle g).can_next l.handle-iterator;
  ends : (goal.iterator-loop-handle g).is_finite l.handle-iterator;
  same : Same l.initial.own l.own;
  parent : l.own.parent ≡ l.initial.own.parent;
  outstanding : l.own.outstanding ≡ l.initial.own.outstanding - length l.sessions.items;
  split : All (λ handle. IsSplitOff l.initial.own handle.promise.participant.value) l.handle-iterator.rest.items;
  children : All (λ handle. IsChild l.initial.own handle.promise.participant.value) l.handle-iterator.rest.items;
  taken : HasTakenIn l.own (participants_of l.sessions.items);
  served : Matched (λ handle finished. IsServed g.G.Gate.passes g.S.Source.trace g.K.Sink.trace handle.promise.participant.value handle.promise.job.value finished) l.yielded l.sessions.items;
  journaled : l.own.journaled ≡ l.initial.own.journaled + all_steps (sessions_of l.sessions.items);
  room : length l.sessions.items + length l.handle-iterator.rest.items ≤ vec_capacity l.sessions;
}

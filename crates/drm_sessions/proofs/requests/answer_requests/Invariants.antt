use Rattle.std.proofs.Common.{◌≡◌, ◌+◌, ◌≤◌}
use Rattle.drm_table.specs.declared.calls.Call.{Call}
use Rattle.drm_table.specs.declared.events.Event.TheVariants.{Ask}
use Rattle.drm_sessions.proofs.SessionEnds.{SoFar}
use Rattle.drm_sessions.specs.Gates.{Gated}
use Rattle.drm_sessions.specs.Reading.{Untold}
use Rattle.drm_sessions.specs.Ends.{IoCost}
use Rattle.drm_sessions.proofs.requests.answer_requests.Given as goal

abbrev pub invariant-asking : goal.invariant-asking
invariant-asking g l =
    SoFar (Gated g.A.Access.answers g.G.Gate.passes) l.client (l.fn.access, l.fn.gate) (l.access, l.gate)
    (g.S.Source.trace l.fn.source) (g.S.Source.trace l.source)
    (g.K.Sink.trace l.fn.sink) (g.K.Sink.trace l.sink) l.fn.inbox l.inbox l.steps
    × IoCost (g.S.Source.trace l.fn.source) (g.S.Source.trace l.source) (g.K.Sink.trace l.fn.sink)
    (g.K.Sink.trace l.sink) l.fn.turns l.turns
    × (l.steps + l.turns ≤ l.fn.turns)
    × Untold (g.S.Source.trace l.fn.source).counts (g.S.Source.trace l.source).counts
    × Untold (g.K.Sink.trace l.fn.sink).counts (g.K.Sink.trace l.sink).counts
    × ((call : Call) × (l.event ≡ Ask l.client call))

abbrev pub decreases-asking : goal.decreases-asking
decreases-asking g l = l.turns

use Rattle.std.proofs.Common.{◌≡◌}
use Rattle.drm_sessions.specs.Reading.{Comes, Untold}
use Rattle.drm_sessions.proofs.reading.next_message.Given as goal

abbrev pub invariant-waiting : goal.invariant-waiting
invariant-waiting g l =
    Comes (g.S.Source.trace l.fn.source) (g.S.Source.trace l.source) l.fn.inbox l.inbox l.fn.turns l.turns
    × Untold (g.S.Source.trace l.fn.source).counts (g.S.Source.trace l.source).counts
    × (l.place ≡ l.fn.place)

abbrev pub decreases-waiting : goal.decreases-waiting
decreases-waiting g l = l.turns

use Rattle.std.proofs.Common.{◌≡◌}
use Rattle.drm_session_tests.proofs.turns.hundred_events.Given as goal

abbrev pub invariant-loop-asked : goal.invariant-loop-asked
invariant-loop-asked g l = l.participant.table ≡ l.initial.participant.table

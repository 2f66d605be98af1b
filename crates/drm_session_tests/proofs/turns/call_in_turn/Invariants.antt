use Rattle.std.proofs.Common.{◌≡◌}
use Rattle.drm_session_tests.proofs.turns.call_in_turn.Given as goal

abbrev pub invariant-loop-turn : goal.invariant-loop-turn
invariant-loop-turn g l = (l.participant.table ≡ l.initial.participant.table) × (l.other.table ≡ l.initial.other.table)

use Rattle.std.proofs.Common.{◌+◌, ◌^◌, ◌<◌}
use Rattle.drm_wire_tests.proofs.interruptions.drained.Given as goal

abbrev pub invariant-pieces : goal.invariant-pieces
invariant-pieces l = l.source.counts.calls + l.turns < 2 ^ 48

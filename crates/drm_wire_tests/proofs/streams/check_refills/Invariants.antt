use Rattle.std.proofs.Common.{◌+◌, ◌^◌, ◌<◌}
use Rattle.drm_wire_tests.proofs.streams.check_refills.Given as goal

abbrev pub invariant-loop-take : goal.invariant-loop-take
invariant-loop-take g l = l.source.counts.calls + l.turns < 2 ^ 48

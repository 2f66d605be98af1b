use Rattle.std.proofs.Common.{◌+◌, ◌^◌, ◌<◌}
use Rattle.drm_wire_tests.proofs.streams.check_puts.Given as goal

abbrev pub invariant-loop-text : goal.invariant-loop-text
invariant-loop-text g l = l.sink.counts.calls + l.turns < 2 ^ 48

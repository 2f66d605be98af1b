use Rattle.std.proofs.Common.{◌≡◌}
use Rattle.drm_part_tests.proofs.masters.check.Given as goal

abbrev pub invariant-loop-place : goal.invariant-loop-place
invariant-loop-place g l = l.masters.last_magic ≡ 4

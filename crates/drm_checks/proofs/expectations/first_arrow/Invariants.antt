use Rattle.std.proofs.Common.{◌≡◌, drop}
use Rattle.drm_checks.specs.Expectations.{arrow_from}
use Rattle.drm_checks.proofs.expectations.first_arrow.Given as goal

abbrev pub invariant-loop-at : goal.invariant-loop-at
invariant-loop-at l = arrow_from 0 l.line ≡ arrow_from l.at (drop l.at l.line)

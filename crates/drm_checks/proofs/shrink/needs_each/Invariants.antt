use Rattle.std.proofs.Common.{ℕ, ◌<◌}
use Rattle.drm_checks.specs.Shrinking.{IsNeeded}
use Rattle.drm_checks.proofs.shrink.needs_each.Given as goal

-- each line so far is needed
abbrev pub invariant-loop-place : goal.invariant-loop-place
invariant-loop-place l = (line : ℕ) → line < l.place → IsNeeded l.setup l.text l.number l.answer line

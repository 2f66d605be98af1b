use Rattle.std.proofs.Common.{◌≡◌, ℕ, ◌<◌, ◌≤◌, false, not}
use Rattle.std.specs.List.{list_any}
use Rattle.drm_masters.specs.Masters.{has_magic}
use Rattle.drm_masters.proofs.searches.free_magic.Given as goal

abbrev pub invariant-loop-number : goal.invariant-loop-number
invariant-loop-number l = (k : ℕ) → k < l.number → 1 ≤ k → not (list_any (has_magic l.master k) l.members.items) ≡ false

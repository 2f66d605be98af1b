use Rattle.std.proofs.Common.{◌≡◌, ◌+◌, drop, take, None}
use Rattle.drm_trails.specs.Passing.{first_step_after}
use Rattle.drm_trails.specs.Steps.{history_of, key_of}
use Rattle.drm_refusals.specs.Withdrawals.{withdraws}
use Rattle.drm_refusals.proofs.withdrawals.withdrawn.Given as goal

abbrev pub invariant-loop-place : goal.invariant-loop-place
invariant-loop-place l = record {
  later : l.later ≡ drop l.count l.steps;
  none : first_step_after (l.published.past + 1) (withdraws (key_of l.key) l.published.client) (history_of (take (l.count + l.place) l.steps)) ≡ None;
}

use Rattle.std.proofs.Common.{◌≡◌, ◌+◌, drop, take, None}
use Rattle.drm_history.specs.Closings.{closes}
use Rattle.drm_history.specs.Effects.{effect}
use Rattle.drm_trails.specs.Passing.{first_step_after}
use Rattle.drm_trails.specs.Steps.{history_of}
use Rattle.drm_explanations.proofs.reasons.closed_at.Given as goal

abbrev pub invariant-loop-place : goal.invariant-loop-place
invariant-loop-place l = record {
  later : l.later ≡ drop l.opened l.steps;
  none : first_step_after l.client (λ step. closes (effect step) l.client) (history_of (take (l.opened + l.place) l.steps)) ≡ None;
}

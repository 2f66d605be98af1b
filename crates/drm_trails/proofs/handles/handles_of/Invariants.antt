use Rattle.std.proofs.Common.{◌≡◌, ℕ, take}
use Rattle.std.specs.BTreeMap.{get}
use Rattle.std.specs.Ordering.{nat_cmp}
use Rattle.drm_trails.specs.Handles.{step_of_gift}
use Rattle.drm_trails.specs.Searches.{last_gift}
use Rattle.drm_trails.specs.Steps.{history_of}
use Rattle.drm_trails.proofs.handles.handles_of.Given as goal

abbrev pub invariant-loop-step : goal.invariant-loop-step
invariant-loop-step l = record {
  count : l.number ≡ l.step-index;
  told : (h : ℕ) → get nat_cmp l.held h ≡ step_of_gift (last_gift (history_of (take l.step-index l.steps)) l.client h);
}

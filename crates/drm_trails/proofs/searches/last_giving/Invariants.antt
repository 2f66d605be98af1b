use Rattle.std.proofs.Common.{◌≡◌, ◌≤◌, take}
use Rattle.drm_trails.specs.Steps.{history_of}
use Rattle.drm_trails.specs.Searches.{last_gift}
use Rattle.drm_trails.proofs.searches.last_giving.Given as goal

-- no later one of these steps says anything of the handle
abbrev pub invariant-touches : goal.invariant-touches
invariant-touches l = record {
  within : l.moment ≤ l.count;
  same : last_gift (history_of (take l.count l.steps)) l.client l.handle ≡ last_gift (history_of (take l.moment l.steps)) l.client l.handle;
}

abbrev pub decreases-touches : goal.decreases-touches
decreases-touches l = l.moment

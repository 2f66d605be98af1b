use Rattle.std.proofs.Common.{◌≡◌, ◌≤◌, length, take}
use Rattle.drm_trails.specs.Steps.{history_of, key_of}
use Rattle.drm_trails.specs.Searches.{last_sharing}
use Rattle.drm_trails.proofs.searches.last_publishing.Given as goal

-- no later step publishes under the key
abbrev pub invariant-steps : goal.invariant-steps
invariant-steps l = record {
  within : l.past ≤ length l.steps;
  same : last_sharing (history_of l.steps) (key_of l.key) ≡ last_sharing (history_of (take l.past l.steps)) (key_of l.key);
}

abbrev pub decreases-steps : goal.decreases-steps
decreases-steps l = l.past

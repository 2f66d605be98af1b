use Rattle.std.proofs.Common.{◌≡◌, take}
use Rattle.drm_trails.specs.Passing.{last_step}
use Rattle.drm_trails.specs.Steps.{history_of}
use Rattle.drm_refusals.specs.Searches.{passes}
use Rattle.drm_refusals.proofs.searching.last.Given as goal

abbrev pub invariant-loop-place : goal.invariant-loop-place
invariant-loop-place l = l.last ≡ last_step (passes l.search) (history_of (take l.place l.steps))

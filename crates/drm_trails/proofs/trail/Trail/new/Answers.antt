use Rattle.drm_trails.proofs.TrailLemmas.{none_noted}
use Rattle.drm_trails.proofs.TouchLemmas.{none_touched}
use Rattle.drm_trails.proofs.ObjectLemmas.{none_known}
use Rattle.drm_trails.proofs.trail.Trail.new.Goals as goal

pub invariant_of-result : goal.invariant_of-result
invariant_of-result c =
    rw (c.new.ensures.items, c.new-2.ensures.items, c.new-3.ensures.items, c.new-4.ensures.items)
    (none_noted, none_touched, none_known)

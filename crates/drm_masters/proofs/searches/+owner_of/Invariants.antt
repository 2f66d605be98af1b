use Rattle.drm_masters.proofs.searches.+owner_of.Given as goal

abbrev pub decreases-owner_of : goal.decreases-owner_of
decreases-owner_of l = l.step_number

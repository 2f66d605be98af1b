use Rattle.drm_masters.proofs.searches.+depth_of.Given as goal

abbrev pub decreases-depth_of : goal.decreases-depth_of
decreases-depth_of l = l.step_number

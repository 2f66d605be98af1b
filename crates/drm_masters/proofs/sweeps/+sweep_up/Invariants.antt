use Rattle.drm_masters.proofs.sweeps.+sweep_up.Given as goal

abbrev pub decreases-sweep_up : goal.decreases-sweep_up
decreases-sweep_up l = l.step_number

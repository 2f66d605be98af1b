use Rattle.drm_index_array.proofs.growth.+raised.Given as goal

abbrev pub decreases-raised : goal.decreases-raised
decreases-raised g l = l.height

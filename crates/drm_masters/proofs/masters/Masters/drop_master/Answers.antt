use Rattle.drm_masters.proofs.masters.Masters.drop_master.Goals as goal

pub is_current_among-requires : goal.is_current_among-requires
is_current_among-requires c =
    record { older = c.self.invariant.are.lessors_older; top = c.self.invariant.are.device_owner }

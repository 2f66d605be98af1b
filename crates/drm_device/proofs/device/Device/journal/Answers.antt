use Rattle.drm_device.proofs.device.Device.journal.Goals as goal

pub returns-clause-found_room : goal.returns-clause-found_room
returns-clause-found_room c = rw (← c.self.view_is) c.self.invariant.found_room

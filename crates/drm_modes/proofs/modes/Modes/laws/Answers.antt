use Rattle.drm_modes.proofs.ModeFacts.{modes_are}
use Rattle.drm_modes.proofs.modes.Modes.laws.Goals as goal

pub returns : goal.returns
returns c =
    rw (← c.self.view_is)
    (modes_are c.self.inside.topology c.self.inside.framebuffers c.self.inside.scanouts.items c.self.invariant)

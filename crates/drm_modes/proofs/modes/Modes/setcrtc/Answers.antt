use Rattle.std.proofs.Common.{arith}
use Rattle.drm_modes.proofs.Fixed.{within}
use Rattle.drm_modes.proofs.modes.Modes.setcrtc.Goals as goal

pub show-requires-clause-low : goal.show-requires-clause-low
show-requires-clause-low c = (within 1 c.args.self.now.topology.crtcs c.args.crtc c.requires.crtc).0

pub show-requires-clause-high : goal.show-requires-clause-high
show-requires-clause-high c =
    let ends = within 1 c.args.self.now.topology.crtcs c.args.crtc c.requires.crtc in
    omega (arith, ends.1)

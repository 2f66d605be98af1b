use Rattle.std.proofs.Common.{◌+◌, length, arith}
use Rattle.drm_modes.proofs.Fixed.{within}
use Rattle.drm_modes.proofs.modes.Modes.setplane.Goals as goal

pub show-requires-clause-low : goal.show-requires-clause-low
show-requires-clause-low c =
    let t = c.args.self.now.topology in
    let ends = within (t.crtcs + 1) (length t.planes) c.args.plane c.requires.plane in
    omega (arith, ends.0)

pub show-requires-clause-high : goal.show-requires-clause-high
show-requires-clause-high c =
    let t = c.args.self.now.topology in
    let ends = within (t.crtcs + 1) (length t.planes) c.args.plane c.requires.plane in
    omega (arith, ends.1)

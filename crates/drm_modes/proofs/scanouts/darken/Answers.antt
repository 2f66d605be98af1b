use Rattle.std.proofs.Common.{ap, ◌∙◌, set}
use Rattle.drm_modes.specs.Modes.{dark_of}
use Rattle.drm_modes.proofs.Mapped.{mapped_more}
use Rattle.drm_modes.proofs.scanouts.darken.Goals as goal

pub loop-scanout-preserved : goal.loop-scanout-preserved
loop-scanout-preserved c =
    let l = c.loop-scanout in
    ap (set l.scanouts l.scanout-index) c.without.ensures
    ∙ mapped_more (dark_of c.args.framebuffer) c.args.scanouts.now l.scanouts l.scanout-index c.loop-scanout-test.true
    l.invariant

use Rattle.std.proofs.Common.{is_some, ap, ◌∙◌}
use Rattle.drm_modes.proofs.ModeFacts.{fb_is, is_some_fb}
use Rattle.drm_modes.proofs.modes.Modes.fb.Goals as goal

pub returns-in_err-fb : goal.returns-in_err-fb
returns-in_err-fb c =
    let inside = c.self.inside in
    let found = c.from_residual.ensures
    ∙ c.in_err-fb.ensures.value
    ∙ fb_is inside.topology inside.framebuffers inside.scanouts.items c.args.self.now c.self.view_is c.args.id in
    record { found = found; there = ap is_some found ∙ is_some_fb c.args.id c.args.self.now }

pub returns : goal.returns
returns c =
    let inside = c.self.inside in
    let found = c.in_ok-fb.ensures.value
    ∙ fb_is inside.topology inside.framebuffers inside.scanouts.items c.args.self.now c.self.view_is c.args.id in
    record { found = found; there = ap is_some found ∙ is_some_fb c.args.id c.args.self.now }

use Rattle.std.proofs.Common.{ap, ◌∙◌}
use Rattle.drm_modes.specs.Modes.{ModeSet, dark_of, without_framebuffer}
use Rattle.drm_modes.specs.Tables.{mode_set}
use Rattle.drm_modes.proofs.Mapped.{refilled_map}
use Rattle.drm_modes.proofs.ModeFacts.{removed, has-removed, made_by}
use Rattle.drm_modes.proofs.modes.Modes.take_away.Goals as goal

pub invariant_of-self : goal.invariant_of-self
invariant_of-self c =
    let inside = c.self.inside in
    let scanouts = inside.scanouts.items in
    let dark =
    refilled_map (dark_of c.args.framebuffer) scanouts c.as_mut_slice.result.now c.darken.new.scanouts
    c.as_mut_slice.ensures.value c.darken.ensures in
    let made =
    made_by inside.topology inside.framebuffers scanouts c.args.self.now c.self.view_is c.args.client
    c.args.framebuffer c.requires.made in
    rw (c.remove-pixels.ensures.after, dark)
    (has-removed inside.topology inside.framebuffers scanouts c.self.invariant c.forget.new.self c.args.framebuffer made.0 c.args.client made.1 made.2 c.forget.ensures)

pub returns : goal.returns
returns c =
    let inside = c.self.inside in
    let scanouts = inside.scanouts.items in
    let dark =
    refilled_map (dark_of c.args.framebuffer) scanouts c.as_mut_slice.result.now c.darken.new.scanouts
    c.as_mut_slice.ensures.value c.darken.ensures in
    (λ i. mode_set inside.topology (c.remove-pixels.ensures.after i) (dark i))
    ∙ removed inside.topology inside.framebuffers scanouts c.args.framebuffer
    ∙ ap (λ (set : ModeSet). without_framebuffer set c.args.framebuffer) c.self.view_is

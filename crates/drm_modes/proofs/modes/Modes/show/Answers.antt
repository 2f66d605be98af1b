use Rattle.std.proofs.Common.{◌≡◌, ◌==◌, ◌||◌, ◌-◌, true, length, set, ap, sym, ◌∙◌}
use Rattle.std.proofs.lemmas.List.{length-set}
use Rattle.drm_modes.specs.Modes.{ModeSet, can_show}
use Rattle.drm_modes.specs.Tables.{is_scanout}
use Rattle.drm_modes.proofs.Mapped.{refilled}
use Rattle.drm_modes.proofs.ModeFacts.{has_is, has-shown}
use Rattle.drm_modes.proofs.modes.Modes.show.Goals as goal

pub invariant_of-self : goal.invariant_of-self
invariant_of-self c =
    let inside = c.self.inside in
    let scanouts = inside.scanouts.items in
    let f = c.args.framebuffer in
    let position = c.args.engine - 1 in
    let slice = c.as_mut_slice.result.now in
    let whole =
    refilled (length scanouts) scanouts (set slice position f)
    (length-set slice position f ∙ ap length c.as_mut_slice.ensures.value)
    ∙ ap (λ xs. set xs position f) c.as_mut_slice.ensures.value in
    let there : is_scanout inside.framebuffers.slots f ≡ true =
    ap (λ b. (f == 0) || b) (sym (has_is inside.topology inside.framebuffers scanouts f)) ∙ ap (λ (s : ModeSet). can_show s f) c.self.view_is ∙ c.requires.there in
    rw whole (has-shown inside.topology inside.framebuffers scanouts c.self.invariant position f there)

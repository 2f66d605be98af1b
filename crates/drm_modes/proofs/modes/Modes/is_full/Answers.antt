use Rattle.std.proofs.Common.{sym, ◌∙◌}
use Rattle.drm_modes.proofs.ModeFacts.{free_is}
use Rattle.drm_modes.proofs.modes.Modes.is_full.Goals as goal

pub returns : goal.returns
returns c =
    let inside = c.self.inside in
    let free = free_is inside.topology inside.framebuffers inside.scanouts.items c.self.invariant.first_is in
    rw (← c.self.view_is) ((λ full. free ∙ c.is_full.ensures.0 full), λ none. c.is_full.ensures.1 (sym free ∙ none))

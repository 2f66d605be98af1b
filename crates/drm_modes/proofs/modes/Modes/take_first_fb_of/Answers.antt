use Rattle.std.proofs.Common.{refl, ap, sym, ◌∙◌, find, option_map, arith}
use Rattle.drm_id_alloc.specs.Groups.{has}
use Rattle.drm_id_alloc.proofs.Grouped.{least_there, least_of_group, no_row_of_group, first_row_of_group}
use Rattle.drm_modes.specs.Modes.{ModeSet, is_made_by}
use Rattle.drm_modes.specs.Tables.{framebuffer_row}
use Rattle.drm_modes.proofs.ModeFacts.{client_of, is_made}
use Rattle.drm_modes.proofs.modes.Modes.take_first_fb_of.Goals as goal

pub returns-in_err-first-clause-first : goal.returns-in_err-first-clause-first
returns-in_err-first-clause-first c =
    let inside = c.self.inside in
    let within = c.self.invariant.within in
    let none =
    no_row_of_group client_of inside.framebuffers.slots (has inside.owned) c.self.invariant.owners c.args.client framebuffer_row (is_made_by c.args.client) (λ e. refl) (λ k there. omega (arith, within.high k there, within.fits)) (sym c.in_err-first.ensures.least) in
    c.from_residual.ensures
    ∙ ap (option_map (λ row. (row.framebuffer, row.object))) (sym none)
    ∙ ap
    (λ (set : ModeSet). option_map (λ row. (row.framebuffer, row.object)) (find (is_made_by c.args.client) set.framebuffers))
    c.self.view_is

pub unreachable-requires : goal.unreachable-requires
unreachable-requires c =
    let inside = c.self.inside in
    least_there client_of inside.framebuffers.slots (has inside.owned) c.self.invariant.owners c.args.client
    c.in_ok-first.first (sym c.in_ok-first.ensures.least) (sym c.in_default.ensures.value)

pub take_away-requires : goal.take_away-requires
take_away-requires c =
    let inside = c.self.inside in
    let n = c.in_ok-first.first in
    let at = sym c.in-Some.ensures.value in
    let mine =
    least_of_group client_of inside.framebuffers.slots (has inside.owned) c.self.invariant.owners c.args.client n
    c.in-Some.pixels.now (sym c.in_ok-first.ensures.least) at in
    record { made = is_made inside.topology inside.framebuffers inside.scanouts.items c.args.self.now c.self.view_is c.args.client n c.in-Some.pixels.now at mine }

pub returns-clause-first : goal.returns-clause-first
returns-clause-first c =
    let inside = c.self.inside in
    let first =
    first_row_of_group client_of inside.framebuffers.slots (has inside.owned) c.self.invariant.owners c.args.client framebuffer_row (is_made_by c.args.client) (λ e. refl) c.in_ok-first.first c.in-Some.pixels.now (sym c.in_ok-first.ensures.least) (sym c.in-Some.ensures.value) in
    ap (option_map (λ row. (row.framebuffer, row.object))) (sym first)
    ∙ ap
    (λ (set : ModeSet). option_map (λ row. (row.framebuffer, row.object)) (find (is_made_by c.args.client) set.framebuffers))
    c.self.view_is

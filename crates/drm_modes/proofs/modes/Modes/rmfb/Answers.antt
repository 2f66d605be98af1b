use Rattle.std.proofs.Common.{cond, Some, None, ap, sym, ◌∙◌, option_map, eq-eqb}
use Rattle.std.proofs.lemmas.Bool.{ne_eqb}
use Rattle.drm_modes.specs.Tables.{framebuffer_row}
use Rattle.drm_modes.proofs.ModeFacts.{removed_is, removes, is_made}
use Rattle.drm_modes.proofs.modes.Modes.rmfb.Goals as goal

pub returns-in_err-pixels-clause-object : goal.returns-in_err-pixels-clause-object
returns-in_err-pixels-clause-object c =
    let inside = c.self.inside in
    c.from_residual.ensures
    ∙ ap (removes c.args.client c.args.framebuffer) c.in_err-pixels.ensures.value
    ∙ removed_is inside.topology inside.framebuffers inside.scanouts.items c.args.self.now c.self.view_is c.args.client
    c.args.framebuffer

pub returns-then-pixels-client-clause-object : goal.returns-then-pixels-client-clause-object
returns-then-pixels-client-clause-object c =
    let inside = c.self.inside in
    let v = c.in_ok-pixels.field-0.now in
    ap (λ b. option_map (λ row. row.object) (cond b (Some (framebuffer_row (c.args.framebuffer, v))) None))
    (sym (ne_eqb v.client c.args.client c.if-pixels-client.true))
    ∙ ap (removes c.args.client c.args.framebuffer) c.in_ok-pixels.ensures.value
    ∙ removed_is inside.topology inside.framebuffers inside.scanouts.items c.args.self.now c.self.view_is c.args.client
    c.args.framebuffer

pub take_away-requires : goal.take_away-requires
take_away-requires c =
    let inside = c.self.inside in
    record {
      made =
          is_made inside.topology inside.framebuffers inside.scanouts.items c.args.self.now c.self.view_is c.args.client
          c.args.framebuffer c.in_ok-pixels.field-0.now (sym c.in_ok-pixels.ensures.value) c.if-pixels-client.false;
    }

pub returns-clause-object : goal.returns-clause-object
returns-clause-object c =
    let inside = c.self.inside in
    let v = c.in_ok-pixels.field-0.now in
    ap (λ b. option_map (λ row. row.object) (cond b (Some (framebuffer_row (c.args.framebuffer, v))) None))
    (sym (eq-eqb v.client c.args.client c.if-pixels-client.false))
    ∙ ap (removes c.args.client c.args.framebuffer) c.in_ok-pixels.ensures.value
    ∙ removed_is inside.topology inside.framebuffers inside.scanouts.items c.args.self.now c.self.view_is c.args.client
    c.args.framebuffer

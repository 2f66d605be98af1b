use Rattle.std.proofs.Common.{◌+◌, ◌≤◌, length, ◌∷◌, [], sym, ◌∙◌, length-append, arith, eq-eqb}
use Rattle.std.proofs.lemmas.Bool.{ne_eqb}
use Rattle.std.proofs.lemmas.Option.{slice_get_within}
use Rattle.drm_modes.specs.declared.rows.Framebuffer.{Framebuffer}
use Rattle.drm_modes.specs.Modes.{is_made_by, framebuffers_of}
use Rattle.drm_modes.proofs.ListsSoFar.{row_told, row_passed, rows_told}
use Rattle.drm_modes.proofs.modes.Modes.framebuffers_of.Goals as goal
use Rattle.drm_modes.proofs.modes.Modes.framebuffers_of.Goals.{then-row-client, else-row-client}

pub loop-row-preserved : goal.loop-row-preserved
loop-row-preserved c =
    let l = c.loop-row in
    let fs = c.args.self.now.framebuffers in
    let test = is_made_by c.args.client in
    let id = λ (row : Framebuffer). row.framebuffer in
    let all = framebuffers_of c.args.self.now c.args.client in
    let row = c.in-Some.row in
    let at = sym c.in-Some.is ∙ c.nth_framebuffer.ensures in
    let lt = slice_get_within fs l.position row (sym at) in
    let within : l.position + 1 ≤ length fs = omega (arith, lt) in
    elim c.if-row-client.branch [
      | then-row-client w ↦ record {
        told =
            rw (w.list-is, w.push.ensures)
            (row_told test id fs l.list all l.position row at (eq-eqb row.client c.args.client w.if-row-client.true) l.invariant.told);
        short =
            rw (w.list-is, w.push.ensures)
            (omega (arith, length-append l.list (row.framebuffer ∷ []), l.invariant.short));
        within = within;
      }
      | else-row-client w ↦ record {
        told =
            rw w.list-is
            (row_passed test id fs l.list all l.position row at (ne_eqb row.client c.args.client w.if-row-client.false) l.invariant.told);
        short = rw w.list-is (omega (arith, l.invariant.short));
        within = within;
      }
    ]

pub returns : goal.returns
returns c =
    let l = c.loop-row in
    rows_told (is_made_by c.args.client) (λ (row : Framebuffer). row.framebuffer) c.args.self.now.framebuffers l.list
    (framebuffers_of c.args.self.now c.args.client) l.position (sym c.in_default.is ∙ c.nth_framebuffer.ensures)
    l.invariant.told

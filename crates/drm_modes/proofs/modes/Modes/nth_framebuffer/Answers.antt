use Rattle.std.proofs.Common.{Some, ap, ◌∙◌, slice_get, option_map, option_and_then}
use Rattle.std.specs.FinMap as fin
use Rattle.drm_index_array.proofs.RowsByKey.{row_at}
use Rattle.drm_modes.specs.Modes.{ModeSet}
use Rattle.drm_modes.specs.Tables.{framebuffer_row}
use Rattle.drm_modes.proofs.modes.Modes.nth_framebuffer.Goals as goal

pub returns : goal.returns
returns c =
    let inside = c.self.inside in
    let slots = inside.framebuffers.slots in
    let n = c.in_ok-framebuffer.framebuffer in
    ap (λ row. Some row) c.row.ensures
    ∙ ap (option_map (λ v. framebuffer_row (n, v))) c.in_ok-fb.ensures.value
    ∙ ap (option_and_then (λ k. option_map (λ v. framebuffer_row (k, v)) (fin.get slots k)))
    c.in_ok-framebuffer.ensures.nth
    ∙ row_at slots 0 framebuffer_row c.args.position
    ∙ ap (λ (set : ModeSet). slice_get set.framebuffers c.args.position) c.self.view_is

use Rattle.std.proofs.Common.{Some, ap, sym, ◌∙◌, slice_get}
use Rattle.std.specs.FinMap as fin
use Rattle.drm_index_array.proofs.Least.{least_some}
use Rattle.drm_files.specs.Records.{rows_in}
use Rattle.drm_files.proofs.Walks.{from_none, from_least}
use Rattle.drm_files.proofs.After.{first_row}
use Rattle.drm_files.proofs.lists.first_held.Goals as goal

pub returns-in_err-handle : goal.returns-in_err-handle
returns-in_err-handle c =
    let m = c.args.table.now.slots in
    c.from_residual.ensures
    ∙ sym (first_row c.args.client c.args.from (fin.entries m) ∙ ap (λ es. slice_get (rows_in c.args.client es) 0) (from_none m c.args.from c.in_err-handle.ensures.none_above))

pub returns : goal.returns
returns c =
    let m = c.args.table.now.slots in
    let h = c.in_ok-handle.handle in
    let first =
    from_least m c.args.from 4294967295 h c.in_ok-handle.held.now
    (least_some _ c.args.from 4294967295 h c.in_ok-handle.ensures.least) c.in_ok-handle.ensures.held in
    ap Some c.hold_of.ensures
    ∙ sym
    (first_row c.args.client c.args.from (fin.entries m) ∙ ap (λ es. slice_get (rows_in c.args.client es) 0) first)

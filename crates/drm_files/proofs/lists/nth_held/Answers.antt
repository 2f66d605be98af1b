use Rattle.std.proofs.Common.{◌-◌, Some, ap, sym, ◌∙◌, slice_get, option_map}
use Rattle.std.specs.FinMap as fin
use Rattle.drm_files.specs.declared.files.Held.{Held}
use Rattle.drm_files.specs.Files.{hold}
use Rattle.drm_files.specs.Records.{rows_in}
use Rattle.drm_index_array.proofs.RowsByKey.{rows_length}
use Rattle.drm_files.proofs.ListsAfterCalls.{held_named, handle_at}
use Rattle.drm_files.proofs.Walks.{at_front, behind_front, not_both}
use Rattle.drm_files.proofs.lists.nth_held.Goals as goal

pub returns-in_default-clause-err : goal.returns-in_default-clause-err
returns-in_default-clause-err c = λ rest.
    let m = c.args.table.now.slots in
    behind_front (rows_in c.args.client (fin.entries m)) rest c.args.position (fin.len m)
    (rows_length m 0 (λ e. hold c.args.client e.0 e.1.object e.1.export_order)) c.in_default.ensures.past
    ∙ ap (λ n. slice_get rest (c.args.position - n)) (sym c.len.ensures.len)

pub unreachable-requires : goal.unreachable-requires
unreachable-requires c =
    not_both (fin.get c.args.table.now.slots c.in-Some.handle) c.in-Some.ensures.present
    (sym c.in_default-get.ensures.value)

pub returns-clause-ok : goal.returns-clause-ok
returns-clause-ok c = λ rest.
    let m = c.args.table.now.slots in
    let here =
    sym (handle_at c.args.client m c.args.position) ∙ ap (held_named c.args.client m) (sym c.in-Some.ensures.nth) in
    at_front (rows_in c.args.client (fin.entries m)) rest c.args.position _
    (here ∙ ap (option_map (λ (x : Held). hold c.args.client c.in-Some.handle x.object x.export_order)) (sym c.in-Some-get.ensures.value) ∙ ap Some (sym c.hold_of.ensures))

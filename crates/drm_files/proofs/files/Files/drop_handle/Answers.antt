use Rattle.std.proofs.Common.{refl, ap, sym, ◌∙◌, option_map, option_and_then}
use Rattle.std.specs.FinMap as fin
use Rattle.drm_files.specs.Files.{FileLists, without_handle_row}
use Rattle.drm_files.specs.ExportOrders.{AreInOrder}
use Rattle.drm_files.specs.Records.{lists_of}
use Rattle.drm_files.proofs.ListsAfterCalls.{dropped, object_is}
use Rattle.drm_files.proofs.RecordFacts.{nobody, unchanged, are-unchanged, are-dropped, with_table, with_both}
use Rattle.drm_files.proofs.files.Files.drop_handle.Goals as goal

pub unreachable-requires : goal.unreachable-requires
unreachable-requires c =
    let inside = c.self.inside in
    let open_client = rw (← c.self.view_is) at c.requires.open_client in
    nobody inside.open_limit inside.last_handle inside.clients.items c.args.client open_client
    c.in_default.ensures.value

pub invariant_of-self : goal.invariant_of-self
invariant_of-self c =
    let inside = c.self.inside in
    are-unchanged inside.open_limit inside.last_handle inside.clients.items c.args.client c.in-Some.record.now
    c.remove.new.self (sym c.in-Some.ensures.value) c.self.invariant c.in_err-held.ensures.absent

pub returns-in_err-held-clause-object : goal.returns-in_err-held-clause-object
returns-in_err-held-clause-object c =
    let inside = c.self.inside in
    c.from_residual.ensures
    ∙ ap (option_map (λ x. x.object)) c.in_err-held.ensures.value
    ∙ ap (λ r. option_map (λ x. x.object) (option_and_then (λ s. fin.get s.handles.slots c.args.handle) r))
    c.in-Some.ensures.value
    ∙ object_is inside.open_limit inside.last_handle inside.clients.items c.args.client _ c.self.view_is c.args.handle

pub returns-in_err-held-clause-dropped : goal.returns-in_err-held-clause-dropped
returns-in_err-held-clause-dropped c =
    let inside = c.self.inside in
    dropped inside.open_limit inside.last_handle inside.clients.items c.args.client c.in-Some.record.now
    (with_table c.in-Some.record.now c.remove.new.self) c.args.handle (sym c.in-Some.ensures.value) refl
    (ap (λ t. t.slots) c.in_err-held.ensures.after)
    ∙ ap (λ (l : FileLists). without_handle_row l c.args.client c.args.handle) c.self.view_is

pub returns-in_err-held-clause-none : goal.returns-in_err-held-clause-none
returns-in_err-held-clause-none c =
    let inside = c.self.inside in
    let same =
    ap (lists_of inside.open_limit inside.last_handle)
    (unchanged inside.open_limit inside.last_handle inside.clients.items c.args.client c.in-Some.record.now c.remove.new.self (sym c.in-Some.ensures.value) c.in_err-held.ensures.absent)
    ∙ c.self.view_is in
    rw c.from_residual.ensures same

pub invariant_of-self-2 : goal.invariant_of-self-2
invariant_of-self-2 c =
    let inside = c.self.inside in
    let r = c.in-Some.record.now in
    let found = sym c.in-Some.ensures.value in
    let order = c.self.invariant.in_order c.args.client r found in
    let left : AreInOrder c.remove.new.self.slots c.forget.new.self =
    rw (ap (λ t. t.slots) c.in_ok-held.ensures.after)
    (c.forget.ensures r.handles.slots c.in_ok-held.held order (sym c.in_ok-held.ensures.value) refl (sym c.is_some.ensures))
    in
    are-dropped inside.open_limit inside.last_handle inside.clients.items c.args.client r c.remove.new.self found
    c.self.invariant c.forget.new.self left c.args.handle c.in_ok-held.ensures.after

pub returns-clause-object : goal.returns-clause-object
returns-clause-object c =
    let inside = c.self.inside in
    ap (option_map (λ x. x.object)) c.in_ok-held.ensures.value
    ∙ ap (λ r. option_map (λ x. x.object) (option_and_then (λ s. fin.get s.handles.slots c.args.handle) r))
    c.in-Some.ensures.value
    ∙ object_is inside.open_limit inside.last_handle inside.clients.items c.args.client _ c.self.view_is c.args.handle

pub returns-clause-dropped : goal.returns-clause-dropped
returns-clause-dropped c =
    let inside = c.self.inside in
    dropped inside.open_limit inside.last_handle inside.clients.items c.args.client c.in-Some.record.now
    (with_both c.in-Some.record.now c.remove.new.self c.forget.new.self) c.args.handle (sym c.in-Some.ensures.value)
    refl (ap (λ t. t.slots) c.in_ok-held.ensures.after)
    ∙ ap (λ (l : FileLists). without_handle_row l c.args.client c.args.handle) c.self.view_is

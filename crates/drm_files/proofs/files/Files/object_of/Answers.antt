use Rattle.std.proofs.Common.{ap, ◌∙◌, option_map, option_and_then}
use Rattle.std.specs.FinMap as fin
use Rattle.drm_files.proofs.ListsAfterCalls.{object_is}
use Rattle.drm_files.proofs.RecordFacts.{files_are}
use Rattle.drm_files.proofs.files.Files.object_of.Goals as goal

pub returns-in_err-record-clause-object : goal.returns-in_err-record-clause-object
returns-in_err-record-clause-object c =
    let inside = c.self.inside in
    c.from_residual.ensures
    ∙ ap (λ r. option_map (λ x. x.object) (option_and_then (λ s. fin.get s.handles.slots c.args.handle) r))
    c.in_err-record.ensures.value
    ∙ object_is inside.open_limit inside.last_handle inside.clients.items c.args.client _ c.self.view_is c.args.handle

pub returns-in_err-record-clause-lists : goal.returns-in_err-record-clause-lists
returns-in_err-record-clause-lists c =
    let inside = c.self.inside in
    rw (← c.self.view_is)
    (files_are inside.open_limit inside.last_handle inside.clients.items c.self.invariant c.get.ensures.bound)

pub returns-in_err-held-clause-object : goal.returns-in_err-held-clause-object
returns-in_err-held-clause-object c =
    let inside = c.self.inside in
    c.from_residual-in_err-held.ensures
    ∙ ap (option_map (λ x. x.object)) c.in_err-held.ensures.value
    ∙ ap (λ r. option_map (λ x. x.object) (option_and_then (λ s. fin.get s.handles.slots c.args.handle) r))
    c.in_ok-record.ensures.value
    ∙ object_is inside.open_limit inside.last_handle inside.clients.items c.args.client _ c.self.view_is c.args.handle

pub returns-in_err-held-clause-lists : goal.returns-in_err-held-clause-lists
returns-in_err-held-clause-lists c =
    let inside = c.self.inside in
    rw (← c.self.view_is)
    (files_are inside.open_limit inside.last_handle inside.clients.items c.self.invariant c.get.ensures.bound)

pub returns-clause-object : goal.returns-clause-object
returns-clause-object c =
    let inside = c.self.inside in
    ap (option_map (λ x. x.object)) c.in_ok-held.ensures.value
    ∙ ap (λ r. option_map (λ x. x.object) (option_and_then (λ s. fin.get s.handles.slots c.args.handle) r))
    c.in_ok-record.ensures.value
    ∙ object_is inside.open_limit inside.last_handle inside.clients.items c.args.client _ c.self.view_is c.args.handle

pub returns-clause-lists : goal.returns-clause-lists
returns-clause-lists c =
    let inside = c.self.inside in
    rw (← c.self.view_is)
    (files_are inside.open_limit inside.last_handle inside.clients.items c.self.invariant c.get.ensures.bound)

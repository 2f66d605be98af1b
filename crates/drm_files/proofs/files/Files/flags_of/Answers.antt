use Rattle.std.proofs.Common.{ap, ◌∙◌, option_map}
use Rattle.drm_files.proofs.ListsAfterCalls.{flags_are}
use Rattle.drm_files.proofs.RecordFacts.{files_are}
use Rattle.drm_files.proofs.files.Files.flags_of.Goals as goal

pub returns-in_err-record-clause-flags : goal.returns-in_err-record-clause-flags
returns-in_err-record-clause-flags c =
    let inside = c.self.inside in
    c.from_residual.ensures ∙ ap (option_map (λ row. row.flags)) c.in_err-record.ensures.value
    ∙ flags_are inside.open_limit inside.last_handle inside.clients.items c.args.client _ c.self.view_is

pub returns-in_err-record-clause-lists : goal.returns-in_err-record-clause-lists
returns-in_err-record-clause-lists c =
    let inside = c.self.inside in
    rw (← c.self.view_is)
    (files_are inside.open_limit inside.last_handle inside.clients.items c.self.invariant c.get.ensures.bound)

pub returns-clause-flags : goal.returns-clause-flags
returns-clause-flags c =
    let inside = c.self.inside in
    ap (option_map (λ row. row.flags)) c.in_ok-record.ensures.value
    ∙ flags_are inside.open_limit inside.last_handle inside.clients.items c.args.client _ c.self.view_is

pub returns-clause-lists : goal.returns-clause-lists
returns-clause-lists c =
    let inside = c.self.inside in
    rw (← c.self.view_is)
    (files_are inside.open_limit inside.last_handle inside.clients.items c.self.invariant c.get.ensures.bound)

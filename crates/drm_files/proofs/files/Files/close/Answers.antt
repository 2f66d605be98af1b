use Rattle.std.proofs.Common.{ap, sym, ◌∙◌}
use Rattle.drm_files.specs.Files.{FileLists, left_by, without_client}
use Rattle.drm_files.specs.Records.{lists_of}
use Rattle.drm_files.proofs.ListsAfterCalls.{closed}
use Rattle.drm_files.proofs.RecordFacts.{nobody, left_is, AreRecords-remove}
use Rattle.drm_files.proofs.files.Files.close.Goals as goal

pub unreachable-requires : goal.unreachable-requires
unreachable-requires c =
    let inside = c.self.inside in
    let open_client = rw (← c.self.view_is) at c.requires.open_client in
    nobody inside.open_limit inside.last_handle inside.clients.items c.args.client open_client
    c.in_default.ensures.value

pub invariant_of-self : goal.invariant_of-self
invariant_of-self c =
    let inside = c.self.inside in
    rw c.in-Some.ensures.after
    (AreRecords-remove inside.open_limit inside.last_handle inside.clients.items c.self.invariant c.args.client)

pub returns-clause-rest : goal.returns-clause-rest
returns-clause-rest c =
    let inside = c.self.inside in
    c.new.ensures
    ∙ sym
    (left_is inside.open_limit inside.last_handle inside.clients.items c.args.client c.in-Some.record (sym c.in-Some.ensures.value))
    ∙ ap (λ (l : FileLists). left_by l c.args.client) c.self.view_is

pub returns-clause-closed : goal.returns-clause-closed
returns-clause-closed c =
    let inside = c.self.inside in
    ap (λ a. lists_of inside.open_limit inside.last_handle a.items) c.in-Some.ensures.after
    ∙ closed inside.open_limit inside.last_handle inside.clients.items c.args.client
    ∙ ap (λ (l : FileLists). without_client l c.args.client) c.self.view_is

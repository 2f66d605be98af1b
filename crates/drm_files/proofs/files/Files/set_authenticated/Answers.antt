use Rattle.std.proofs.Common.{true, refl, ap, sym, ◌∙◌}
use Rattle.drm_files.specs.declared.files.FileRecord.{FileRecord}
use Rattle.drm_files.specs.Files.{FileLists, authenticated, with_authenticated}
use Rattle.drm_files.proofs.ListsAfterCalls.{changed}
use Rattle.drm_files.proofs.RecordFacts.{nobody, AreRecords-insert}
use Rattle.drm_files.proofs.files.Files.set_authenticated.Goals as goal

pub unreachable-requires : goal.unreachable-requires
unreachable-requires c =
    let inside = c.self.inside in
    let open_client = rw (← c.self.view_is) at c.requires.open_client in
    nobody inside.open_limit inside.last_handle inside.clients.items c.args.client open_client
    c.in_default.ensures.value

pub invariant_of-self : goal.invariant_of-self
invariant_of-self c =
    let inside = c.self.inside in
    AreRecords-insert inside.open_limit inside.last_handle inside.clients.items c.self.invariant c.args.client _
    (c.self.invariant.tables c.args.client c.in-Some.record.now (sym c.in-Some.ensures.value))
    (c.self.invariant.in_order c.args.client c.in-Some.record.now (sym c.in-Some.ensures.value))

pub returns : goal.returns
returns c =
    let inside = c.self.inside in
    let old = c.in-Some.record.now in
    let new : FileRecord =
    record { flags = record old.flags { authenticated = true }; handles = old.handles; orders = old.orders } in
    changed inside.open_limit inside.last_handle inside.clients.items c.args.client authenticated old new
    (sym c.in-Some.ensures.value) (λ k. refl) refl
    ∙ ap (λ (l : FileLists). with_authenticated l c.args.client) c.self.view_is

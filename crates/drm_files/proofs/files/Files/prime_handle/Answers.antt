use Rattle.std.proofs.Common.{None, ap, sym, ◌∙◌}
use Rattle.drm_files.specs.Files.{FileLists, prime_handle}
use Rattle.drm_files.proofs.PrimeFacts.{prime_is, least_is}
use Rattle.drm_files.proofs.RecordFacts.{nobody, files_are}
use Rattle.drm_files.proofs.files.Files.prime_handle.Goals as goal

pub unreachable-requires : goal.unreachable-requires
unreachable-requires c =
    let inside = c.self.inside in
    let open_client = rw (← c.self.view_is) at c.requires.open_client in
    nobody inside.open_limit inside.last_handle inside.clients.items c.args.client open_client
    c.in_default.ensures.value

pub returns-clause-handle : goal.returns-clause-handle
returns-clause-handle c =
    let inside = c.self.inside in
    let r = c.in-Some.record.now in
    let found = sym c.in-Some.ensures.value in
    let order = c.self.invariant.in_order c.args.client r found in
    least_is r.handles.slots c.args.object c.first.result (rw c.first.ensures (order.next c.args.object None None tt))
    ∙ prime_is inside.open_limit inside.last_handle inside.clients.items c.args.client r found c.args.object
    ∙ ap (λ (l : FileLists). prime_handle l c.args.client c.args.object) c.self.view_is

pub returns-clause-lists : goal.returns-clause-lists
returns-clause-lists c =
    let inside = c.self.inside in
    rw (← c.self.view_is)
    (files_are inside.open_limit inside.last_handle inside.clients.items c.self.invariant c.get.ensures.bound)

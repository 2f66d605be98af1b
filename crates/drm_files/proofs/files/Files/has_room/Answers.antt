use Rattle.std.proofs.Common.{ap, sym, is_some, ◌∙◌}
use Rattle.drm_id_alloc.specs.Table.{least_free}
use Rattle.drm_files.specs.Files.{FileLists, free_handle}
use Rattle.drm_files.proofs.RecordFacts.{nobody, free_is, room_is}
use Rattle.drm_files.proofs.files.Files.has_room.Goals as goal

pub unreachable-requires : goal.unreachable-requires
unreachable-requires c =
    let inside = c.self.inside in
    let open_client = rw (← c.self.view_is) at c.requires.open_client in
    nobody inside.open_limit inside.last_handle inside.clients.items c.args.client open_client
    c.in_default.ensures.value

pub returns : goal.returns
returns c =
    let inside = c.self.inside in
    let m = inside.clients.items in
    let found = sym c.in-Some.ensures.value in
    room_is c.is_full.result (least_free c.in-Some.record.now.handles) c.is_full.ensures.0 c.is_full.ensures.1
    ∙ ap is_some
    (sym (free_is inside.open_limit inside.last_handle m c.args.client c.in-Some.record.now found (c.self.invariant.tables c.args.client c.in-Some.record.now found)))
    ∙ ap (λ (l : FileLists). is_some (free_handle l c.args.client)) c.self.view_is

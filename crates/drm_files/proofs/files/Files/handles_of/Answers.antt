use Rattle.std.proofs.Common.{ap, sym, ◌∙◌, take, filter, nat_le}
use Rattle.drm_files.specs.Files.{FileLists, handles_of}
use Rattle.drm_files.proofs.RecordFacts.{nobody, handles_are}
use Rattle.drm_files.proofs.files.Files.handles_of.Goals as goal

pub unreachable-requires : goal.unreachable-requires
unreachable-requires c =
    let inside = c.self.inside in
    let open_client = rw (← c.self.view_is) at c.requires.open_client in
    nobody inside.open_limit inside.last_handle inside.clients.items c.args.client open_client
    c.in_default.ensures.value

pub returns : goal.returns
returns c =
    let inside = c.self.inside in
    c.shown_handles.ensures
    ∙ ap (λ hs. take 64 (filter (λ h. nat_le c.args.from h) hs))
    (sym (handles_are inside.open_limit inside.last_handle inside.clients.items c.args.client c.in-Some.record.now (sym c.in-Some.ensures.value)))
    ∙ ap (λ (l : FileLists). take 64 (filter (λ h. nat_le c.args.from h) (handles_of l c.args.client))) c.self.view_is

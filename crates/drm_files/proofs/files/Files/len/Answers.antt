use Rattle.std.proofs.Common.{◌∙◌, sym}
use Rattle.drm_files.proofs.ListsAfterCalls.{length_clients}
use Rattle.drm_files.proofs.files.Files.len.Goals as goal

pub returns : goal.returns
returns c =
    let inside = c.self.inside in
    rw (← c.self.view_is)
    (c.len.ensures.len ∙ sym (length_clients inside.open_limit inside.last_handle inside.clients.items 0))

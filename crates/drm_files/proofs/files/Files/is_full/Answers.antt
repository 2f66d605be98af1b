use Rattle.std.proofs.Common.{◌∙◌, ap, sym}
use Rattle.std.specs.Prelude.{nat_le}
use Rattle.drm_files.proofs.ListsAfterCalls.{length_clients}
use Rattle.drm_files.proofs.RecordFacts.{files_are}
use Rattle.drm_files.proofs.files.Files.is_full.Goals as goal

pub returns-clause-full : goal.returns-clause-full
returns-clause-full c =
    let inside = c.self.inside in
    rw (← c.self.view_is)
    (ap (nat_le inside.open_limit) (c.len.ensures.len ∙ sym (length_clients inside.open_limit inside.last_handle inside.clients.items 0)))

pub returns-clause-lists : goal.returns-clause-lists
returns-clause-lists c =
    let inside = c.self.inside in
    rw (← c.self.view_is)
    (files_are inside.open_limit inside.last_handle inside.clients.items c.self.invariant c.len.ensures.bound)

use Rattle.drm_id_alloc.proofs.SearchLemmas.{lowest_from_start}
use Rattle.drm_id_alloc.proofs.table.IdTable.lowest_free.Goals as goal

pub returns-clause-least : goal.returns-clause-least
returns-clause-least g c =
    let t = c.self.inside in
    let least = rw (← c.self.view_is) at c.free_from.ensures.least in
    rw (← c.self.view_is)
    (lowest_from_start t.entries.items t.first t.start t.last c.self.invariant.start_low c.self.invariant.used c.free_from.result least)

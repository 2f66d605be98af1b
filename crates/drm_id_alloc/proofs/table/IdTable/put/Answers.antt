use Rattle.drm_id_alloc.proofs.TableLemmas.{IsWithin-insert}
use Rattle.drm_id_alloc.proofs.SearchLemmas.{used_more}
use Rattle.drm_id_alloc.proofs.table.IdTable.put.Goals as goal

pub invariant_of-self-2 : goal.invariant_of-self-2
invariant_of-self-2 g c =
    let requires = rw (← c.self.view_is) at c.requires in
    let old = c.self.invariant in
    rw c.in_default.ensures.ok (record {
      within = IsWithin-insert _ _ _ _ old.within _ _ requires.low requires.high;
      start_low = old.start_low;
      used = used_more _ _ _ _ _ old.used;
    })

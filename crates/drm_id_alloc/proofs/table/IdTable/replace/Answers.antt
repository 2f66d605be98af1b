use Rattle.std.proofs.Common.{ap, sym, IsTrue, is_some}
use Rattle.std.specs.FinMap as map
use Rattle.drm_id_alloc.proofs.TableLemmas.{IsWithin-insert}
use Rattle.drm_id_alloc.proofs.SearchLemmas.{used_more}
use Rattle.drm_id_alloc.proofs.table.IdTable.replace.Goals as goal

pub invariant_of-self-2 : goal.invariant_of-self-2
invariant_of-self-2 g c =
    let used : IsTrue (map.contains_key c.self.inside.entries.items c.args.id) =
    ap is_some (sym c.in-Some.ensures.value) in
    let old = c.self.invariant in
    record {
      within = IsWithin-insert _ _ _ _ old.within _ _ (old.within.low _ used) (old.within.high _ used);
      start_low = old.start_low;
      used = used_more _ _ _ _ _ old.used;
    }

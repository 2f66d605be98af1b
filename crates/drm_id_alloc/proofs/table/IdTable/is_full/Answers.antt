use Rattle.std.proofs.Common.{◌-◌, IsTrue, nat_lt, arith}
use Rattle.std.proofs.lemmas.Bool.Decides.{nat_tests}
use Rattle.std.specs.FinMap as map
use Rattle.drm_id_alloc.proofs.FullLemmas.{full_by_len}
use Rattle.drm_id_alloc.proofs.table.IdTable.is_full.Goals as goal

pub returns : goal.returns
returns g c =
    let t = c.self.inside in
    let full = full_by_len t.entries.items t.first t.last t.last_given c.self.invariant.within in
    rw c.len.ensures.len
    (rw (← c.self.view_is) ((λ (more : IsTrue (nat_lt (t.last - t.first) (map.len t.entries.items))). full.0 (grind (arith, nat_tests, more)), λ none. grind (arith, nat_tests, full.1 none))))

use Rattle.std.proofs.Common.{◌∙◌, IsTrue, ap, sym, is_some, arith}
use Rattle.std.specs.FinMap as map
use Rattle.drm_id_alloc.proofs.TableLemmas.{IsWithin-remove}
use Rattle.drm_id_alloc.proofs.SearchLemmas.{used_fewer}
use Rattle.drm_id_alloc.proofs.table.IdTable.remove.Goals as goal

pub invariant_of-self-then-id-self : goal.invariant_of-self-then-id-self
invariant_of-self-then-id-self g c =
    let old = c.self.invariant in
    let used : IsTrue (map.contains_key c.self.inside.entries.items c.args.id) =
    ap is_some (sym c.remove.ensures.value ∙ c.in_ok-value.was) in
    rw c.remove.ensures.after (record {
      within = IsWithin-remove _ _ _ _ old.within _;
      start_low = old.within.low _ used;
      used = used_fewer _ _ c.args.id c.args.id (λ k low below. old.used k low (omega (arith, below, c.if-id-self.true))) (omega arith);
    })

pub invariant_of-self-else-id-self : goal.invariant_of-self-else-id-self
invariant_of-self-else-id-self g c =
    let old = c.self.invariant in
    rw c.remove.ensures.after (record {
      within = IsWithin-remove _ _ _ _ old.within _;
      start_low = old.start_low;
      used = used_fewer _ _ c.args.id c.self.inside.start old.used c.if-id-self.false;
    })

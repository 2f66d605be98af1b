use Rattle.std.proofs.Common.{◌≡◌, ◌∙◌, ap, cond, eqb, None}
use Rattle.std.specs.FinMap as map
use Rattle.drm_index_array.proofs.MarkedLemmas.{get-remove}
use Rattle.drm_index_array.proofs.tree.cut_child.Goals as goal

pub returns-in-Child-clause-below : goal.returns-in-Child-clause-below
returns-in-Child-clause-below g c =
    let old : c.deref_mut.result.now ≡ c.in-Child.child.value = c.deref_mut.ensures.value in
    rw c.in-Child.is
    (λ r. ap (λ m. map.get m r) c.cut.ensures.items ∙ get-remove _ c.args.rest r ∙ ap (λ t. cond (eqb r c.args.rest) None (map.get t.items r)) old)

use Rattle.std.proofs.Common.{◌∙◌}
use Rattle.drm_index_array.proofs.CountLemmas.{vacant_counted, value_counted, child_counted}
use Rattle.drm_index_array.proofs.tree.count_below.Goals as goal

pub returns-in-Vacant : goal.returns-in-Vacant
returns-in-Vacant g c = rw c.in-Vacant.is (λ height fits. vacant_counted g.row.T.Denot height)

pub returns-in-Value : goal.returns-in-Value
returns-in-Value g c = rw c.in-Value.is (λ height fits. value_counted c.in-Value.field-0 height fits)

pub returns-in-Child : goal.returns-in-Child
returns-in-Child g c =
    let len = rw c.deref.ensures at c.len.ensures.len in
    let past = rw c.deref.ensures at c.len.ensures.past in
    rw c.in-Child.is (λ height fits. len ∙ child_counted c.in-Child.child past height fits)

use Rattle.std.proofs.Common.{◌≡◌, refl, rules}
use Rattle.drm_index_array.proofs.tree.AboveLevel.lend.Goals as goal

pub returns-in-Child : goal.returns-in-Child
returns-in-Child g c =
    let old : c.deref_mut.result.now ≡ c.in-Child.child.value = rw c.in-Child.is at c.deref_mut.ensures.value in
    (rw c.in-Child.is (rw old refl), record { writes_back = tt; value = search rules })

use Rattle.std.proofs.Common.{◌≡◌, sym}
use Rattle.drm_index_array.proofs.RootLemmas.{kept_unless, remove_none}
use Rattle.drm_index_array.proofs.growth.remove_below.Goals as goal

pub returns-then-not-covers-clause-items : goal.returns-then-not-covers-clause-items
returns-then-not-covers-clause-items g c = sym (remove_none _ _ (c.covers.ensures.absent c.if-not-covers.true))

pub returns-then-not-covers-clause-kept : goal.returns-then-not-covers-clause-kept
returns-then-not-covers-clause-kept g c = remove_none _ _ (c.covers.ensures.absent c.if-not-covers.true)

pub returns-in-Some-clause-kept : goal.returns-in-Some-clause-kept
returns-in-Some-clause-kept g c =
    let old : c.deref_mut.result.now ≡ c.in-Some.root.value = c.deref_mut.ensures.value in
    rw c.in-Some.is (kept_unless _ _ c.remove.result (rw old at c.remove.ensures.value))

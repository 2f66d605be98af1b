use Rattle.std.proofs.Common.{◌≡◌, ap, sym, ◌∙◌, subst, inr}
use Rattle.drm_index_array.specs.Marked.{array_of}
use Rattle.drm_index_array.specs.Root.{items_of, IsRooted}
use Rattle.drm_index_array.proofs.ArrayLemmas.{item_at, no_item, array_lent, rooted_lent, lent_there}
use Rattle.drm_index_array.proofs.array.IndexArray.get_mut.Goals as goal

pub invariant_of-self-lent : goal.invariant_of-self-lent
invariant_of-self-lent g c =
    let old : c.deref_mut.result.now ≡ c.in-Some.root.value = rw c.in-Some.is at c.deref_mut.ensures.value in
    let at = ap items_of c.in-Some.is in
    let view = ap array_of (sym at) ∙ c.self.view_is in
    let rooted = subst (λ m. IsRooted m c.self.inside.count) at c.self.invariant.rooted in
    rw (c.in-Some.is, old)
    (λ _. (λ w. record { rooted = rooted_lent _ _ view c.args.index _ rooted w }, record { rooted = rooted }))

pub returns-in-Some : goal.returns-in-Some
returns-in-Some g c =
    let old : c.deref_mut.result.now ≡ c.in-Some.root.value = rw c.in-Some.is at c.deref_mut.ensures.value in
    let at = ap items_of c.in-Some.is in
    let view = ap array_of (sym at) ∙ c.self.view_is in
    let value = rw old at c.get_mut.ensures.value in
    (rw (c.in-Some.is, old) (lent_there _ _ view c.args.index c.get_mut.result value _ _ _ _ (array_lent _ _ view c.args.index) view), record { writes_back = tt; value = value ∙ item_at _ _ view c.args.index })

pub returns-in-None : goal.returns-in-None
returns-in-None g c =
    (ap inr c.self.view_is, record { writes_back = tt; value = sym (no_item _ _ c.self.view_is (ap items_of c.in-None.is) c.args.index) })

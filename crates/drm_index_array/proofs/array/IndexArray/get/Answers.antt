use Rattle.std.proofs.Common.{ap, sym, ◌∙◌}
use Rattle.drm_index_array.specs.Root.{items_of}
use Rattle.drm_index_array.proofs.ArrayLemmas.{item_bound, item_found, no_item}
use Rattle.drm_index_array.proofs.array.IndexArray.get.Goals as goal

pub returns-in_default-clause-value : goal.returns-in_default-clause-value
returns-in_default-clause-value g c = sym (no_item _ _ c.self.view_is (ap items_of c.in_default.is) c.args.index)

pub returns-in_default-clause-bound : goal.returns-in_default-clause-bound
returns-in_default-clause-bound g c = item_bound _ _ c.self.view_is _ c.self.invariant.rooted

pub returns-in_default-find-clause-value : goal.returns-in_default-find-clause-value
returns-in_default-find-clause-value g c =
    let tree = ap (λ t. t.items) c.deref.ensures ∙ sym (ap items_of c.in-Some.is) in
    item_found _ _ c.self.view_is c.args.index _ _ c.in_default-find.ensures.entry tree

pub returns-in_default-find-clause-bound : goal.returns-in_default-find-clause-bound
returns-in_default-find-clause-bound g c = item_bound _ _ c.self.view_is _ c.self.invariant.rooted

pub returns-clause-value : goal.returns-clause-value
returns-clause-value g c =
    let tree = ap (λ t. t.items) c.deref.ensures ∙ sym (ap items_of c.in-Some.is) in
    item_found _ _ c.self.view_is c.args.index _ _ c.in-Some-find.ensures.entry tree

pub returns-clause-bound : goal.returns-clause-bound
returns-clause-bound g c = item_bound _ _ c.self.view_is _ c.self.invariant.rooted

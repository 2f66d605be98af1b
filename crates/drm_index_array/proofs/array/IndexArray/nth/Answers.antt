use Rattle.std.proofs.Common.{ap, sym, ◌∙◌, arith}
use Rattle.drm_index_array.specs.Tree.{span}
use Rattle.drm_index_array.specs.Root.{items_of}
use Rattle.drm_index_array.proofs.ArrayLemmas.{item_bound, nth_found, nth_there, nth_few, no_nth, no_len}
use Rattle.drm_index_array.proofs.array.IndexArray.nth.Goals as goal

pub returns-in_default-clause-nth : goal.returns-in_default-clause-nth
returns-in_default-clause-nth g c = no_nth _ _ c.self.view_is (ap items_of c.in_default.is) c.args.position

pub returns-in_default-clause-past : goal.returns-in_default-clause-past
returns-in_default-clause-past g c = omega (arith, no_len _ _ c.self.view_is (ap items_of c.in_default.is))

pub returns-in_default-clause-bound : goal.returns-in_default-clause-bound
returns-in_default-clause-bound g c = item_bound _ _ c.self.view_is _ c.self.invariant.rooted

pub returns-in_default-nth-clause-nth : goal.returns-in_default-nth-clause-nth
returns-in_default-nth-clause-nth g c =
    let tree = ap (λ t. t.items) c.deref.ensures ∙ sym (ap items_of c.in-Some.is) in
    nth_found _ _ c.self.view_is _ tree (span c.deref.result.now.height) c.nth.ensures.past c.args.position _
    c.in_default-nth.ensures.placed

pub returns-in_default-nth-clause-past : goal.returns-in_default-nth-clause-past
returns-in_default-nth-clause-past g c =
    let tree = ap (λ t. t.items) c.deref.ensures ∙ sym (ap items_of c.in-Some.is) in
    nth_few _ _ c.self.view_is _ tree (span c.deref.result.now.height) c.nth.ensures.past c.args.position
    c.in_default-nth.ensures.placed

pub returns-in_default-nth-clause-bound : goal.returns-in_default-nth-clause-bound
returns-in_default-nth-clause-bound g c = item_bound _ _ c.self.view_is _ c.self.invariant.rooted

pub overflow_cast-result : goal.overflow_cast-result
overflow_cast-result g c =
    let tree = ap (λ t. t.items) c.deref.ensures ∙ sym (ap items_of c.in-Some.is) in
    let there =
    nth_there _ _ c.self.view_is _ tree (span c.deref.result.now.height) c.nth.ensures.past c.args.position _
    c.in-Some-nth.ensures.placed in
    omega (arith, item_bound _ _ c.self.view_is _ c.self.invariant.rooted _ there)

pub returns-clause-nth : goal.returns-clause-nth
returns-clause-nth g c =
    let tree = ap (λ t. t.items) c.deref.ensures ∙ sym (ap items_of c.in-Some.is) in
    nth_found _ _ c.self.view_is _ tree (span c.deref.result.now.height) c.nth.ensures.past c.args.position _
    c.in-Some-nth.ensures.placed

pub returns-clause-present : goal.returns-clause-present
returns-clause-present g c =
    let tree = ap (λ t. t.items) c.deref.ensures ∙ sym (ap items_of c.in-Some.is) in
    nth_there _ _ c.self.view_is _ tree (span c.deref.result.now.height) c.nth.ensures.past c.args.position _
    c.in-Some-nth.ensures.placed

pub returns-clause-bound : goal.returns-clause-bound
returns-clause-bound g c = item_bound _ _ c.self.view_is _ c.self.invariant.rooted

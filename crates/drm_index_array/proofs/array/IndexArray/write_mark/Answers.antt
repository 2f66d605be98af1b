use Rattle.std.proofs.Common.{ap, sym, ◌∙◌, refl, subst, IsSome}
use Rattle.std.proofs.lemmas.Bool.{false≢true}
use Rattle.drm_index_array.specs.Marked.{array_of}
use Rattle.drm_index_array.specs.Root.{items_of, IsRooted}
use Rattle.drm_index_array.proofs.ArrayLemmas.{item_at, no_key, key_found, array_written, rooted_written}
use Rattle.drm_index_array.proofs.array.IndexArray.write_mark.Goals as goal

pub returns-in_default-clause-result : goal.returns-in_default-clause-result
returns-in_default-clause-result g c =
    (λ no_one. absurd (false≢true no_one), λ there. sym (no_key _ _ c.self.view_is (ap items_of c.in_default.is) c.args.index) ∙ there)

pub returns-then-is_none-clause-result : goal.returns-then-is_none-clause-result
returns-then-is_none-clause-result g c =
    let tree = ap (λ t. t.items) c.deref.ensures ∙ sym (ap items_of c.in-Some.is) in
    let key = key_found _ _ c.self.view_is c.args.index c.find.result _ c.find.ensures.entry tree in
    (λ no_one. absurd (false≢true no_one), λ there. sym c.if-is_none.ensures ∙ key ∙ there)

pub invariant_of-self-2 : goal.invariant_of-self-2
invariant_of-self-2 g c =
    let at = ap items_of c.in-Some.is in
    let items = rw c.deref_mut.ensures.value at c.write_mark.ensures.items in
    let view = ap array_of (sym at) ∙ c.self.view_is in
    let was = subst (λ m. IsRooted m c.self.inside.count) at c.self.invariant.rooted in
    let rooted = rooted_written _ _ view c.args.index c.args.mark c.args.on _ items _ was in
    record { rooted = rooted }

pub returns-clause-result : goal.returns-clause-result
returns-clause-result g c =
    let tree = ap (λ t. t.items) c.deref.ensures ∙ sym (ap items_of c.in-Some.is) in
    let key = key_found _ _ c.self.view_is c.args.index c.find.result _ c.find.ensures.entry tree in
    (λ _. sym key ∙ c.if-is_none.ensures, λ _. refl)

pub returns-clause-present : goal.returns-clause-present
returns-clause-present g c =
    let tree = ap (λ t. t.items) c.deref.ensures ∙ sym (ap items_of c.in-Some.is) in
    let key = key_found _ _ c.self.view_is c.args.index c.find.result _ c.find.ensures.entry tree in
    let at = ap items_of c.in-Some.is in
    let items = rw c.deref_mut.ensures.value at c.write_mark.ensures.items in
    let view = ap array_of (sym at) ∙ c.self.view_is in
    let there = subst IsSome (sym (item_at _ _ view c.args.index)) (sym key ∙ c.if-is_none.ensures) in
    array_written _ _ view c.args.index c.args.mark c.args.on _ items there

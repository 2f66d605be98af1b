use Rattle.std.proofs.Common.{◌∙◌, sym}
use Rattle.drm_index_array.proofs.ArrayLemmas.{item_at, array_less, array_same, rooted_less, rooted_same, some_counted}
use Rattle.drm_index_array.proofs.array.IndexArray.remove.Goals as goal

pub returns-in_default-clause-value : goal.returns-in_default-clause-value
returns-in_default-clause-value g c =
    (sym c.in_default.is ∙ c.remove_below.ensures.value)
    ∙ item_at _ _ c.self.view_is c.args.index

pub returns-in_default-clause-after : goal.returns-in_default-clause-after
returns-in_default-clause-after g c =
    array_less _ _ c.self.view_is c.args.index _ c.remove_below.ensures.items

pub invariant_of-self : goal.invariant_of-self
invariant_of-self g c =
    record { rooted = rooted_same _ _ c.self.view_is c.args.index _ c.remove_below.ensures.items _ c.self.invariant.rooted c.in_default.ensures.kept }

pub returns-in_default-clause-absent : goal.returns-in_default-clause-absent
returns-in_default-clause-absent g c =
    array_same _ _ c.self.view_is c.args.index _ c.remove_below.ensures.items c.in_default.ensures.kept

pub overflow_sub-self : goal.overflow_sub-self
overflow_sub-self g c =
    some_counted _ _ c.self.view_is c.args.index _ c.remove_below.ensures.items c.in-Some.value (sym c.in-Some.is ∙ c.remove_below.ensures.value) _ c.self.invariant.rooted

pub invariant_of-self-2 : goal.invariant_of-self-2
invariant_of-self-2 g c =
    record { rooted = rooted_less _ _ c.self.view_is c.args.index _ c.remove_below.ensures.items c.in-Some.value (sym c.in-Some.is ∙ c.remove_below.ensures.value) _ c.self.invariant.rooted }

pub returns-clause-value : goal.returns-clause-value
returns-clause-value g c =
    (sym c.in-Some.is ∙ c.remove_below.ensures.value) ∙ item_at _ _ c.self.view_is c.args.index

pub returns-clause-after : goal.returns-clause-after
returns-clause-after g c =
    array_less _ _ c.self.view_is c.args.index _ c.remove_below.ensures.items

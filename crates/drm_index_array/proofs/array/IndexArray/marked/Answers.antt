use Rattle.std.proofs.Common.{ap, sym, ◌∙◌}
use Rattle.drm_index_array.specs.Root.{items_of}
use Rattle.drm_index_array.proofs.ArrayLemmas.{mark_is_key, mark_found, no_mark}
use Rattle.drm_index_array.proofs.array.IndexArray.marked.Goals as goal

pub returns-in_default-clause-marked : goal.returns-in_default-clause-marked
returns-in_default-clause-marked g c =
    sym (no_mark _ _ c.self.view_is (ap items_of c.in_default.is) c.args.mark c.args.index)

pub returns-in_default-clause-present : goal.returns-in_default-clause-present
returns-in_default-clause-present g c = mark_is_key _ _ c.self.view_is c.args.mark

pub returns-in_default-find-clause-marked : goal.returns-in_default-find-clause-marked
returns-in_default-find-clause-marked g c =
    let tree = ap (λ t. t.items) c.deref.ensures ∙ sym (ap items_of c.in-Some.is) in
    mark_found _ _ c.self.view_is c.args.index _ _ c.in_default-find.ensures.entry tree c.args.mark

pub returns-in_default-find-clause-present : goal.returns-in_default-find-clause-present
returns-in_default-find-clause-present g c = mark_is_key _ _ c.self.view_is c.args.mark

pub returns-clause-marked : goal.returns-clause-marked
returns-clause-marked g c =
    let tree = ap (λ t. t.items) c.deref.ensures ∙ sym (ap items_of c.in-Some.is) in
    c.has.ensures ∙ mark_found _ _ c.self.view_is c.args.index _ _ c.in-Some-find.ensures.entry tree c.args.mark

pub returns-clause-present : goal.returns-clause-present
returns-clause-present g c = mark_is_key _ _ c.self.view_is c.args.mark

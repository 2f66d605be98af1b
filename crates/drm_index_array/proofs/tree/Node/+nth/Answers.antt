use Rattle.std.proofs.Common.{arith}
use Rattle.drm_index_array.specs.declared.tree.Slot.TheVariants.{Vacant}
use Rattle.drm_index_array.proofs.CountLemmas.{below_is, vacant_counted, value_placed, child_placed, child_missed}
use Rattle.drm_index_array.proofs.RootLemmas.{view_past}
use Rattle.drm_index_array.proofs.tree.Node.+nth.Goals as goal

pub returns-in-Vacant-clause-placed : goal.returns-in-Vacant-clause-placed
returns-in-Vacant-clause-placed g t c =
    let here =
    below_is _ c.self.invariant.sound c.self.view_is c.in-Some.at c.in-Some.ensures.slot _ Vacant c.index.ensures
    c.in-Vacant.is c.in-Some.position c.in-Some.ensures.within in
    absurd (omega (arith, here, vacant_counted g.row.T.Denot c.self.inside.height))

pub returns-in-Value-clause-placed : goal.returns-in-Value-clause-placed
returns-in-Value-clause-placed g t c =
    value_placed _ c.self.invariant.sound c.self.view_is c.in-Some.at c.in-Some.ensures.slot _ c.in-Value.field-0
    c.index.ensures c.in-Value.is c.in-Some.position c.args.position c.start-base.result c.start-base.ensures.value
    c.in-Some.ensures.within c.in-Some.ensures.before

pub returns-in-Some-nth-clause-placed : goal.returns-in-Some-nth-clause-placed
returns-in-Some-nth-clause-placed g t c =
    let found = rw c.deref.ensures at c.in-Some-nth.ensures.placed in
    child_placed _ c.self.invariant.sound c.self.view_is c.in-Some.at c.in-Some.ensures.slot _ c.in-Child.child
    c.index.ensures c.in-Child.is c.in-Some.position c.args.position c.start-base.result c.in-Some-nth.found
    c.start-base.ensures.value found c.in-Some.ensures.before

pub returns-in-None-clause-placed : goal.returns-in-None-clause-placed
returns-in-None-clause-placed g t c =
    let missed = rw c.deref.ensures at c.in-None.ensures.placed in
    absurd
    (child_missed _ c.self.invariant.sound c.self.view_is c.in-Some.at c.in-Some.ensures.slot _ c.in-Child.child c.index.ensures c.in-Child.is c.in-Some.position c.in-Some.ensures.within missed)

pub returns-in-Vacant-clause-past : goal.returns-in-Vacant-clause-past
returns-in-Vacant-clause-past g t c = view_past _ _ _ c.self.view_is

pub returns-in-Value-clause-past : goal.returns-in-Value-clause-past
returns-in-Value-clause-past g t c = view_past _ _ _ c.self.view_is

pub returns-in-Some-nth-clause-past : goal.returns-in-Some-nth-clause-past
returns-in-Some-nth-clause-past g t c = view_past _ _ _ c.self.view_is

pub returns-in-None-clause-past : goal.returns-in-None-clause-past
returns-in-None-clause-past g t c = view_past _ _ _ c.self.view_is

pub returns-in_default-clause-past : goal.returns-in_default-clause-past
returns-in_default-clause-past g t c = view_past _ _ _ c.self.view_is

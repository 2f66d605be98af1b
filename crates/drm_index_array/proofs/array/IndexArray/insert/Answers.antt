use Rattle.std.proofs.Common.{sym, ◌∙◌, arith}
use Rattle.drm_index_array.proofs.ArrayLemmas.{key_at, rooted_more, array_more, mark_of_new, item_absent}
use Rattle.drm_index_array.proofs.array.IndexArray.insert.Goals as goal

pub returns-in-Err-clause-taken : goal.returns-in-Err-clause-taken
returns-in-Err-clause-taken g c =
    let key = key_at _ _ c.self.view_is c.args.index in
    let taken = c.in-Err.ensures.taken in
    (λ is. sym key ∙ taken.0 is, λ there. taken.1 (key ∙ there))

pub invariant_of-self-2 : goal.invariant_of-self-2
invariant_of-self-2 g c =
    let is = c.in_default.ensures.ok in
    let absent = c.in_default.ensures.absent in
    record { rooted = rooted_more _ _ c.self.view_is c.args.index c.args.value _ is absent _ c.self.invariant.rooted (omega arith) }

pub returns-clause-ok : goal.returns-clause-ok
returns-clause-ok g c =
    let is = c.in_default.ensures.ok in
    let absent = c.in_default.ensures.absent in
    array_more _ _ c.self.view_is c.args.index c.args.value _ is absent

pub returns-clause-unmarked : goal.returns-clause-unmarked
returns-clause-unmarked g c =
    let is = c.in_default.ensures.ok in
    let absent = c.in_default.ensures.absent in
    mark_of_new _ _ c.self.view_is c.args.index c.args.value _ is absent

pub returns-clause-absent : goal.returns-clause-absent
returns-clause-absent g c =
    let is = c.in_default.ensures.ok in
    let absent = c.in_default.ensures.absent in
    item_absent _ _ c.self.view_is c.args.index c.args.value _ is absent

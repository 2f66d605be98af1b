use Rattle.std.proofs.Common.{Some, None, Result, Ok, Err, sym, ap, ◌∙◌}
use Rattle.std.specs.Prelude.{OnOk, OnErr}
use Rattle.std.specs.FinMap as map
use Rattle.drm_index_array.proofs.MarkedLemmas.{insert_same}
use Rattle.drm_masters.specs.Ids.{IdMap, id_at, id_in}
use Rattle.drm_masters.proofs.IdLemmas.{set_one, item_more, item_first}
use Rattle.drm_masters.proofs.ids.OwnerIds.note.Goals as goal

on_ok : {A E : Type 0} {P Q : Type 0} (r : Result A E) → (P → Q) → OnOk r P → OnOk r Q
on_ok (Ok x) f h = f h
on_ok (Err e) f h = h

on_err : {A E : Type 0} {P Q : Type 0} (r : Result A E) → (P → Q) → OnErr r P → OnErr r Q
on_err (Ok x) f h = h
on_err (Err e) f h = f h

pub put_new-requires : goal.put_new-requires
put_new-requires c =
    record
    { vacant = ap (λ o. id_in o c.args.id) c.in-Some.ensures.value ∙ ap (λ (m : IdMap). id_at m c.args.owner c.args.id) c.self.view_is ∙ c.requires }

pub returns-in-Some-clause-ok : goal.returns-in-Some-clause-ok
returns-in-Some-clause-ok c =
    on_ok c.put_new.result
    (λ own. rw (← c.self.view_is) (set_one c.self.inside.owners.items c.args.owner (Some c.in-Some.ids.now) c.put_new.new.numbers c.args.id (Some c.args.step_number) (sym c.in-Some.ensures.value) (item_more c.in-Some.ids.now c.put_new.new.numbers c.args.id c.args.step_number own)))
    c.put_new.ensures.ok

pub returns-in-Some-clause-err : goal.returns-in-Some-clause-err
returns-in-Some-clause-err c =
    on_err c.put_new.result
    (λ same. ap (map.insert c.self.inside.owners.items c.args.owner) same ∙ insert_same c.self.inside.owners.items c.args.owner c.in-Some.ids.now (sym c.in-Some.ensures.value) ∙ c.self.view_is)
    c.put_new.ensures.err

pub returns-clause-ok : goal.returns-clause-ok
returns-clause-ok c =
    let own =
    item_first c.new-ids.result c.insert.new.self c.args.id c.args.step_number c.new-ids.ensures
    c.in_default-insert.ensures.ok in
    rw (c.in_default-insert-2.ensures.ok, ← c.self.view_is)
    (set_one c.self.inside.owners.items c.args.owner None c.insert.new.self c.args.id (Some c.args.step_number) (sym c.in_default.ensures.value) own)

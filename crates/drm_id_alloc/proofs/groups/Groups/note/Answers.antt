use Rattle.std.proofs.Common.{Some, None, Result, Ok, Err, sym, ap, ◌∙◌}
use Rattle.std.specs.Prelude.{OnOk, OnErr}
use Rattle.std.specs.FinMap as map
use Rattle.drm_index_array.proofs.MarkedLemmas.{insert_same}
use Rattle.drm_id_alloc.proofs.GroupLemmas.{group_more}
use Rattle.drm_id_alloc.specs.Groups.{has_number}
use Rattle.drm_id_alloc.proofs.NumberLemmas.{single, single_has}
use Rattle.drm_id_alloc.proofs.groups.Groups.note.Goals as goal

on_ok : {A E : Type 0} {P Q : Type 0} (r : Result A E) → (P → Q) → OnOk r P → OnOk r Q
on_ok (Ok x) f h = f h
on_ok (Err e) f h = h

on_err : {A E : Type 0} {P Q : Type 0} (r : Result A E) → (P → Q) → OnErr r P → OnErr r Q
on_err (Ok x) f h = h
on_err (Err e) f h = f h

pub returns-in-Some-clause-ok : goal.returns-in-Some-clause-ok
returns-in-Some-clause-ok c =
    on_ok c.note.result
    (λ own. rw (← c.self.view_is) (group_more has_number c.self.inside.groups.items c.args.group (Some c.in-Some.numbers.now) c.note.new.self c.args.number (sym c.in-Some.ensures.value) own))
    c.note.ensures.ok

pub returns-in-Some-clause-err : goal.returns-in-Some-clause-err
returns-in-Some-clause-err c =
    on_err c.note.result
    (λ same. ap (map.insert c.self.inside.groups.items c.args.group) same ∙ insert_same c.self.inside.groups.items c.args.group c.in-Some.numbers.now (sym c.in-Some.ensures.value) ∙ c.self.view_is)
    c.note.ensures.err

pub returns-clause-ok : goal.returns-clause-ok
returns-clause-ok c =
    rw (c.in_default-insert.ensures.ok, c.one.ensures, ← c.self.view_is)
    (group_more has_number c.self.inside.groups.items c.args.group None (single c.args.number) c.args.number (sym c.in_default.ensures.value) (single_has c.args.number))

use Rattle.std.proofs.Common.{◌≡◌, ℕ, ◌<◌, true, false, not, Some, find, refl, sym, ap, subst, ◌∙◌}
use Rattle.std.specs.List.{list_any}
use Rattle.std.specs.Option.{is_some}
use Rattle.drm_index_array.specs.Rows.{placed}
use Rattle.drm_index_array.proofs.Least.{least_some}
use Rattle.drm_masters.specs.declared.rows.Master.{Master}
use Rattle.drm_masters.specs.Fields.{set_of}
use Rattle.drm_masters.specs.Masters.{MasterSet, HasOlderLessor, master_before, master_at, step_number_at, is_key, owner_of, is_lessee_of, free_lessee}
use Rattle.drm_masters.specs.Calls as calls
use Rattle.drm_masters.proofs.MasterChains.{IsFresh}
use Rattle.drm_masters.proofs.MastersStaySound.{sound, lessee_are, keyed_more, of_key, known}
use Rattle.drm_masters.proofs.masters.Masters.make_lessee.Goals as goal
use Rattle.std.proofs.lemmas.Bool.{not-true}

pub insert-requires-clause-there : goal.insert-requires-clause-there
insert-requires-clause-there c =
    let ms = c.self.inside.masters.items in
    let m = c.in-Some.lessor.step_number in
    let its = of_key ms c.args.master c.in-Some.lessor (sym c.of_key.ensures ∙ c.in-Some.is) in
    let later = rw (← c.self.view_is) at c.requires.later in
    subst (HasOlderLessor ms) (sym c.lessee.ensures)
    (λ l e. subst (λ n. (is_some (master_at ms n) ≡ true) × (n < c.args.birth)) (let s : Some m ≡ Some l = e in let t : m ≡ l = cc in t) (its.1, subst (λ n. n < c.args.birth) its.0 later))

pub insert-requires-clause-absent : goal.insert-requires-clause-absent
insert-requires-clause-absent c =
    let ms = c.self.inside.masters.items in
    let unused = rw (← c.self.view_is) at c.requires.new_step_number in
    subst (λ (u : Master). is_some (master_at ms u.step_number) ≡ false) (sym c.lessee.ensures) unused

pub insert-requires-clause-other_id : goal.insert-requires-clause-other_id
insert-requires-clause-other_id c =
    let ms = c.self.inside.masters.items in
    let m = c.in-Some.lessor.step_number in
    let id = c.in-Some-free_lessee.id in
    let free : free_lessee (set_of c.self.inside) m ≡ Some id =
    ap (λ (w : MasterSet). free_lessee w m) c.self.view_is ∙ sym c.free_lessee.ensures ∙ c.in-Some-free_lessee.is in
    let is =
    least_some (λ k. not (list_any (is_lessee_of ms (owner_of ms m) k) ms)) 1 c.self.inside.last_lessee id free in
    subst
    (λ (u : Master). (l : ℕ) → u.lessor ≡ Some l → list_any (is_lessee_of ms (owner_of ms l) u.lessee_id) ms ≡ false)
    (sym c.lessee.ensures)
    (λ l e. subst (λ n. list_any (is_lessee_of ms (owner_of ms n) id) ms ≡ false) (let s : Some m ≡ Some l = e in let t : m ≡ l = cc in t) (not-true (list_any (is_lessee_of ms (owner_of ms m) id) ms) is.passes))

pub invariant_of-self-2 : goal.invariant_of-self-2
invariant_of-self-2 c =
    let so = known c.self.inside c.args.self.now c.self.view_is c.self.invariant in
    let fresh : IsFresh c.args.self.now.masters c.args.birth = (so.are.masters_rise, c.requires.new_step_number) in
    let m = c.in-Some.lessor.step_number in
    let z = calls.lessee c.in-Ok.key c.args.birth m c.in-Some-free_lessee.id in
    let found : find (is_key c.args.master) c.args.self.now.masters ≡ Some c.in-Some.lessor =
    sym (ap (λ (w : MasterSet). find (is_key c.args.master) w.masters) c.self.view_is) ∙ sym c.of_key.ensures
    ∙ c.in-Some.is in
    let masters : c.insert.new.self.items ≡ placed master_before z c.self.inside.masters.items =
    c.in-Ok.ensures.ok
    ∙ ap (λ (x : Master). placed master_before (calls.keyed_as c.in-Ok.key x) c.self.inside.masters.items)
    c.lessee.ensures in
    let its = of_key c.args.self.now.masters c.args.master c.in-Some.lessor found in
    sound _ (calls.with_master z c.args.self.now)
    ((λ i. record (set_of c.self.inside) { masters = masters i }) ∙ ap (calls.with_master z) c.self.view_is)
    (lessee_are c.args.self.now so.are z refl (λ l e. subst (λ n. (is_some (master_at c.args.self.now.masters n) ≡ true) × (n < c.args.birth)) (let s : Some m ≡ Some l = e in let t : m ≡ l = cc in t) (its.1, subst (λ n. n < c.args.birth) its.0 c.requires.later)) fresh)
    (keyed_more c.args.self.now.masters z c.in-Ok.key so.are.masters_rise so.keyed (ap (λ (w : MasterSet). find (is_key c.in-Ok.key) w.masters) (sym c.self.view_is) ∙ c.in-Ok.ensures.free) refl)

pub returns-clause-made : goal.returns-clause-made
returns-clause-made c =
    let m = c.in-Some.lessor.step_number in
    let id = c.in-Some-free_lessee.id in
    let found : find (is_key c.args.master) c.args.self.now.masters ≡ Some c.in-Some.lessor =
    sym (ap (λ (w : MasterSet). find (is_key c.args.master) w.masters) c.self.view_is) ∙ sym c.of_key.ensures
    ∙ c.in-Some.is in
    let at : step_number_at c.args.self.now.masters c.args.master ≡ m =
    (of_key c.args.self.now.masters c.args.master c.in-Some.lessor found).0 in
    let z = calls.lessee c.in-Ok.key c.args.birth m id in
    let masters : c.insert.new.self.items ≡ placed master_before z c.self.inside.masters.items =
    c.in-Ok.ensures.ok
    ∙ ap (λ (x : Master). placed master_before (calls.keyed_as c.in-Ok.key x) c.self.inside.masters.items)
    c.lessee.ensures in
    let free : free_lessee c.args.self.now m ≡ Some id = sym c.free_lessee.ensures ∙ c.in-Some-free_lessee.is in (
      ap (λ (w : MasterSet). find (is_key c.in-Ok.key) w.masters) (sym c.self.view_is) ∙ c.in-Ok.ensures.free,
      ap (free_lessee c.args.self.now) at ∙ free,
      (λ i. record (set_of c.self.inside) { masters = masters i }) ∙ ap (calls.with_master z) c.self.view_is
          ∙ (λ i. calls.with_master (calls.lessee c.in-Ok.key c.args.birth (sym at i) id) c.args.self.now),
    )

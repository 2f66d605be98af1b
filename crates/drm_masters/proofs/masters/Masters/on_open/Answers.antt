use Rattle.std.proofs.Common.{◌≡◌, ℕ, false, not, filter, find, Some, refl, sym, ap, subst, ◌∙◌}
use Rattle.std.specs.List.{list_any}
use Rattle.std.specs.Option.{is_some}
use Rattle.std.proofs.lemmas.Bool.{false≢true}
use Rattle.drm_index_array.specs.Rows.{placed}
use Rattle.drm_masters.specs.declared.rows.Master.{Master}
use Rattle.drm_masters.specs.declared.rows.Member.{Member}
use Rattle.drm_masters.specs.Fields.{set_of}
use Rattle.drm_masters.specs.Masters.{MasterSet, HasOlderLessor, member_of, member_before, master_before, is_key, is_step_number, is_option, master_at, owner_of, is_lessee_of}
use Rattle.drm_masters.specs.Calls as calls
use Rattle.drm_masters.proofs.MasterChains.{IsFresh, Older}
use Rattle.drm_masters.proofs.Owned.{unnamed_yet}
use Rattle.drm_masters.proofs.Pushed.{pushed_older, taken_back}
use Rattle.drm_masters.proofs.MastersStaySound.{sound, device_there, non_master_are, opener_are, keyed_more, known}
use Rattle.drm_masters.proofs.masters.Masters.on_open.Goals as goal

pub invariant_of-self-in-Some : goal.invariant_of-self-in-Some
invariant_of-self-in-Some c =
    let v = c.args.self.now in
    let so = known c.self.inside v c.self.view_is c.self.invariant in
    let y = calls.non_master c.args.client c.in-Some.master in
    let items : c.add.new.self.items ≡ placed member_before y c.self.inside.members.items =
    c.in_default-add.ensures.ok
    ∙ ap (λ (x : Member). placed member_before x c.self.inside.members.items) c.non_master.ensures in
    let device : v.device_master ≡ Some c.in-Some.master =
    sym (ap (λ (w : MasterSet). w.device_master) c.self.view_is) ∙ c.in-Some.is in
    sound _ (calls.with_member y v)
    ((λ i. record (set_of c.self.inside) { members = items i }) ∙ ap (calls.with_member y) c.self.view_is)
    (non_master_are v so.are y c.requires.new_client c.requires.room refl (device_there v so.are c.in-Some.master device) (λ _. so.are.device_owner c.in-Some.master device))
    so.keyed

pub insert-requires : goal.insert-requires
insert-requires c =
    let unused = rw (← c.self.view_is) at c.requires.new_step_number in
    let fresh : IsFresh c.self.inside.masters.items c.args.birth = (c.self.invariant.are.masters_rise, unused) in
    let ms = c.self.inside.masters.items in
    record {
      absent =
          subst (λ (u : Master). is_some (master_at ms u.step_number) ≡ false) (sym c.founded_master.ensures) unused;
      older = c.self.invariant.are.lessors_older;
      there = subst (HasOlderLessor ms) (sym c.founded_master.ensures) (λ l e. absurd (false≢true (ap is_some e)));
      other_id =
          subst
          (λ (u : Master). (l : ℕ) → u.lessor ≡ Some l → list_any (is_lessee_of ms (owner_of ms l) u.lessee_id) ms ≡ false)
          (sym c.founded_master.ensures) (λ l e. absurd (false≢true (ap is_some e)));
    }

pub remove-requires : goal.remove-requires
remove-requires c =
    let z = calls.founded_master c.in_default-insert.field-0 c.args.birth in
    let ms = c.self.inside.masters.items in
    let unused = rw (← c.self.view_is) at c.requires.new_step_number in
    let fresh : IsFresh c.self.inside.masters.items c.args.birth = (c.self.invariant.are.masters_rise, unused) in
    let masters : c.insert.new.self.items ≡ placed master_before z ms =
    c.in_default-insert.ensures.ok
    ∙ ap (λ (x : Master). placed master_before (calls.keyed_as c.in_default-insert.field-0 x) ms)
    c.founded_master.ensures in
    record {
      older =
          subst Older (sym masters)
          (pushed_older ms z fresh (λ l e. absurd (false≢true (ap is_some e))) c.self.invariant.are.lessors_older);
      no_lessee =
          subst (λ l. list_any (λ (y : Master). is_option c.args.birth y.lessor) l ≡ false) (sym masters)
          (unnamed_yet ms z fresh c.self.invariant.are.lessors_older refl);
    }

pub add-requires-2 : goal.add-requires-2
add-requires-2 c =
    let absent = rw (← c.self.view_is) at c.requires.new_client in
    record { new_client = subst (λ (u : Member). is_some (member_of c.self.inside.members.items u.client) ≡ false) (sym c.owner-founder.ensures) absent }

pub invariant_of-self-in-Err-add : goal.invariant_of-self-in-Err-add
invariant_of-self-in-Err-add c =
    let v = c.args.self.now in
    let so = known c.self.inside v c.self.view_is c.self.invariant in
    let z = calls.founded_master c.in_default-insert.field-0 c.args.birth in
    let unused = rw (← c.self.view_is) at c.requires.new_step_number in
    let fresh : IsFresh c.self.inside.masters.items c.args.birth = (c.self.invariant.are.masters_rise, unused) in
    let masters : c.insert.new.self.items ≡ placed master_before z c.self.inside.masters.items =
    c.in_default-insert.ensures.ok
    ∙ ap
    (λ (x : Master). placed master_before (calls.keyed_as c.in_default-insert.field-0 x) c.self.inside.masters.items)
    c.founded_master.ensures in
    let back : c.remove.new.self.items ≡ c.self.inside.masters.items =
    c.remove.ensures ∙ ap (filter (λ (x : Master). not (is_step_number c.args.birth x))) masters
    ∙ taken_back c.self.inside.masters.items z fresh in
    let path =
    (λ i. record (set_of c.self.inside) { members = (c.in-Err-add.ensures.err i).items; masters = back i })
    ∙ c.self.view_is in
    sound _ v path so.are so.keyed

pub returns-in-Err-add-clause-err : goal.returns-in-Err-add-clause-err
returns-in-Err-add-clause-err c =
    let z = calls.founded_master c.in_default-insert.field-0 c.args.birth in
    let unused = rw (← c.self.view_is) at c.requires.new_step_number in
    let fresh : IsFresh c.self.inside.masters.items c.args.birth = (c.self.invariant.are.masters_rise, unused) in
    let masters : c.insert.new.self.items ≡ placed master_before z c.self.inside.masters.items =
    c.in_default-insert.ensures.ok
    ∙ ap
    (λ (x : Master). placed master_before (calls.keyed_as c.in_default-insert.field-0 x) c.self.inside.masters.items)
    c.founded_master.ensures in
    let back : c.remove.new.self.items ≡ c.self.inside.masters.items =
    c.remove.ensures ∙ ap (filter (λ (x : Master). not (is_step_number c.args.birth x))) masters
    ∙ taken_back c.self.inside.masters.items z fresh in
    let path =
    (λ i. record (set_of c.self.inside) { members = (c.in-Err-add.ensures.err i).items; masters = back i })
    ∙ c.self.view_is in
    path

founded : ℕ → ℕ → ℕ → MasterSet → MasterSet
founded c key b v =
    calls.with_device (Some b) (calls.with_member (calls.owner c b) (calls.with_master (calls.founded_master key b) v))

pub invariant_of-self-2 : goal.invariant_of-self-2
unfolding founded
invariant_of-self-2 c =
    let v = c.args.self.now in
    let so = known c.self.inside v c.self.view_is c.self.invariant in
    let b = c.args.birth in
    let key = c.in_default-insert.field-0 in
    let y = calls.owner c.args.client b in
    let z = calls.founded_master key b in
    let masters : c.insert.new.self.items ≡ placed master_before z c.self.inside.masters.items =
    c.in_default-insert.ensures.ok
    ∙ ap (λ (x : Master). placed master_before (calls.keyed_as key x) c.self.inside.masters.items)
    c.founded_master.ensures in
    let items : c.add-2.new.self.items ≡ placed member_before y c.self.inside.members.items =
    c.in_default-add-2.ensures.ok
    ∙ ap (λ (x : Member). placed member_before x c.self.inside.members.items) c.owner-founder.ensures in
    let path = ap (founded c.args.client key b) c.self.view_is in
    sound _ (founded c.args.client key b v)
    ((λ i. record (set_of c.self.inside) { members = items i; masters = masters i; device_master = Some b }) ∙ path)
    (opener_are v so.are y c.requires.new_client c.requires.room refl z refl refl refl (so.are.masters_rise, c.requires.new_step_number))
    (keyed_more v.masters z key so.are.masters_rise so.keyed (ap (λ (w : MasterSet). find (is_key key) w.masters) (sym c.self.view_is) ∙ c.in_default-insert.ensures.free) refl)

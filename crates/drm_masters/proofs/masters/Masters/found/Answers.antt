use Rattle.std.proofs.Common.{◌≡◌, ◌<◌, ◌==◌, true, false, not, List, Some, map, filter, find, refl, sym, ap, subst, ◌∙◌}
use Rattle.std.specs.Prelude.{if◌then◌else◌}
use Rattle.std.specs.List.{list_any, AllByRecursion}
use Rattle.std.specs.Option.{is_some, option_map_or}
use Rattle.std.proofs.lemmas.Bool.{false≢true}
use Rattle.drm_index_array.specs.Rows.{placed}
use Rattle.drm_index_array.specs.Orders.{InOrder}
use Rattle.drm_masters.specs.declared.rows.Master.{Master}
use Rattle.drm_masters.specs.declared.rows.Member.{Member}
use Rattle.drm_masters.specs.Fields.{set_of}
use Rattle.drm_masters.specs.Masters.{MasterSet, AreMasters, HasOlderLessor, master_before, member_of, is_step_number, is_client, is_option, is_key, is_living, swept}
use Rattle.drm_masters.specs.Calls as calls
use Rattle.drm_masters.proofs.Upward.{OthersUsed}
use Rattle.drm_masters.proofs.Pushed.{there_apart, pushed_older, taken_back}
use Rattle.drm_masters.proofs.MasterChains.{IsFresh, Older}
use Rattle.drm_masters.proofs.Owned.{unnamed_yet}
use Rattle.drm_masters.proofs.MastersStaySound.{sound, swept_are, remade_ties, remade_used, client_found, master_there, keyed_more, keyed_fewer, known}
use Rattle.drm_masters.proofs.masters.Masters.found.Goals as goal

pub remake-requires : goal.remake-requires
remake-requires c =
    let v = c.args.self.now in
    let are : AreMasters v = subst AreMasters c.self.view_is c.self.invariant.are in
    let x = c.in-Some.old in
    let at : member_of v.members c.args.client ≡ Some x =
    sym (ap (λ (u : MasterSet). member_of u.members c.args.client) c.self.view_is) ∙ sym c.get.ensures
    ∙ c.in-Some.is in
    let b = c.args.step_number in
    let apart =
    there_apart v.masters (calls.founded_master 0 b) (are.masters_rise, c.requires.new_step_number) x.master
    (master_there v are c.args.client x at) in
    let look : member_of c.self.inside.members.items c.args.client ≡ Some x =
    ap (λ (u : MasterSet). member_of u.members c.args.client) c.self.view_is ∙ at in
    record {
      moves =
          subst
          (λ (u : Member). option_map_or (λ (y : Member). not (y.master == u.master)) (member_of c.self.inside.members.items u.client) false ≡ true)
          (sym c.owner-founder.ensures)
          (ap (λ o. option_map_or (λ (y : Member). not (y.master == b)) o false) look ∙ ap not apart);
    }

pub remove-requires : goal.remove-requires
remove-requires c =
    let z = calls.founded_master c.in-Ok.key c.args.step_number in
    let ms = c.self.inside.masters.items in
    let unused = rw (← c.self.view_is) at c.requires.new_step_number in
    let fresh : IsFresh c.self.inside.masters.items c.args.step_number = (c.self.invariant.are.masters_rise, unused) in
    let masters : c.insert.new.self.items ≡ placed master_before z ms =
    c.in-Ok.ensures.ok
    ∙ ap (λ (x : Master). placed master_before (calls.keyed_as c.in-Ok.key x) ms) c.founded_master.ensures in
    record {
      older =
          subst Older (sym masters)
          (pushed_older ms z fresh (λ l e. absurd (false≢true (ap is_some e))) c.self.invariant.are.lessors_older);
      no_lessee =
          subst (λ l. list_any (λ (y : Master). is_option c.args.step_number y.lessor) l ≡ false) (sym masters)
          (unnamed_yet ms z fresh c.self.invariant.are.lessors_older refl);
    }

pub invariant_of-self-in-Err-remake : goal.invariant_of-self-in-Err-remake
invariant_of-self-in-Err-remake c =
    let v = c.args.self.now in
    let so = known c.self.inside v c.self.view_is c.self.invariant in
    let z = calls.founded_master c.in-Ok.key c.args.step_number in
    let unused = rw (← c.self.view_is) at c.requires.new_step_number in
    let fresh : IsFresh c.self.inside.masters.items c.args.step_number = (c.self.invariant.are.masters_rise, unused) in
    let masters : c.insert.new.self.items ≡ placed master_before z c.self.inside.masters.items =
    c.in-Ok.ensures.ok
    ∙ ap (λ (x : Master). placed master_before (calls.keyed_as c.in-Ok.key x) c.self.inside.masters.items)
    c.founded_master.ensures in
    let back : c.remove.new.self.items ≡ c.self.inside.masters.items =
    c.remove.ensures ∙ ap (filter (λ (x : Master). not (is_step_number c.args.step_number x))) masters
    ∙ taken_back c.self.inside.masters.items z fresh in
    let path =
    (λ i. record (set_of c.self.inside) { members = (c.in-Err-remake.ensures.err i).items; masters = back i })
    ∙ c.self.view_is in
    sound _ v path so.are so.keyed

pub returns-in-Err-remake-clause-err : goal.returns-in-Err-remake-clause-err
returns-in-Err-remake-clause-err c =
    let z = calls.founded_master c.in-Ok.key c.args.step_number in
    let unused = rw (← c.self.view_is) at c.requires.new_step_number in
    let fresh : IsFresh c.self.inside.masters.items c.args.step_number = (c.self.invariant.are.masters_rise, unused) in
    let masters : c.insert.new.self.items ≡ placed master_before z c.self.inside.masters.items =
    c.in-Ok.ensures.ok
    ∙ ap (λ (x : Master). placed master_before (calls.keyed_as c.in-Ok.key x) c.self.inside.masters.items)
    c.founded_master.ensures in
    let back : c.remove.new.self.items ≡ c.self.inside.masters.items =
    c.remove.ensures ∙ ap (filter (λ (x : Master). not (is_step_number c.args.step_number x))) masters
    ∙ taken_back c.self.inside.masters.items z fresh in
    let path =
    (λ i. record (set_of c.self.inside) { members = (c.in-Err-remake.ensures.err i).items; masters = back i })
    ∙ c.self.view_is in
    path

pub sweep_up-requires : goal.sweep_up-requires
sweep_up-requires c =
    let v = c.args.self.now in
    let are : AreMasters v = subst AreMasters c.self.view_is c.self.invariant.are in
    let x = c.in-Some.old in
    let look : member_of v.members c.args.client ≡ Some x =
    sym (ap (λ (u : MasterSet). member_of u.members c.args.client) c.self.view_is) ∙ sym c.get.ensures
    ∙ c.in-Some.is in
    let is = client_found v.members c.args.client x look in
    let b = c.args.step_number in
    let key = c.in-Ok.key in
    let y = calls.owner c.args.client b in
    let z = calls.founded_master key b in
    let t =
    remade_ties v are x y is.1 (sym is.0) z refl refl refl refl (are.masters_rise, c.requires.new_step_number) in
    let masters : c.insert.new.self.items ≡ placed master_before z c.self.inside.masters.items =
    c.in-Ok.ensures.ok
    ∙ ap (λ (u : Master). placed master_before (calls.keyed_as key u) c.self.inside.masters.items)
    c.founded_master.ensures in
    let items : c.remake.new.self.items ≡ map (λ (u : Member). if is_client y.client u then y else u) c.self.inside.members.items =
    c.in_default-remake.ensures.rows
    ∙ ap (λ (z : Member). map (λ (u : Member). if is_client z.client u then z else u) c.self.inside.members.items)
    c.owner-founder.ensures in
    let Used = λ (m : List Member) (l : List Master). OthersUsed m l x.master in
    let members : c.remake.new.self.items ≡ (calls.changed_member y v).members =
    items ∙ ap (λ (u : MasterSet). (calls.changed_member y u).members) c.self.view_is in
    let rows : c.insert.new.self.items ≡ placed master_before z v.masters =
    masters ∙ ap (λ (u : MasterSet). placed master_before z u.masters) c.self.view_is in
    record {
      rise =
          subst (λ l. InOrder (λ (u v : Master). u.step_number < v.step_number) l)
          (sym (masters ∙ ap (λ (u : MasterSet). placed master_before z u.masters) c.self.view_is)) t.masters_rise;
      older =
          subst (λ l. AllByRecursion (HasOlderLessor l) l)
          (sym (masters ∙ ap (λ (u : MasterSet). placed master_before z u.masters) c.self.view_is)) t.lessors_older;
      others =
          subst (λ m. Used m c.insert.new.self.items) (sym members)
          (subst (Used (calls.changed_member y v).members) (sym rows) (remade_used v are x y is.1 (sym is.0) z refl));
    }

pub invariant_of-self-2 : goal.invariant_of-self-2
invariant_of-self-2 c =
    let v = c.args.self.now in
    let so = known c.self.inside v c.self.view_is c.self.invariant in
    let x = c.in-Some.old in
    let look : member_of v.members c.args.client ≡ Some x =
    sym (ap (λ (u : MasterSet). member_of u.members c.args.client) c.self.view_is) ∙ sym c.get.ensures
    ∙ c.in-Some.is in
    let is = client_found v.members c.args.client x look in
    let b = c.args.step_number in
    let key = c.in-Ok.key in
    let y = calls.owner c.args.client b in
    let z = calls.founded_master key b in
    let t =
    remade_ties v so.are x y is.1 (sym is.0) z refl refl refl refl (so.are.masters_rise, c.requires.new_step_number)
    in
    let items : c.remake.new.self.items ≡ map (λ (u : Member). if is_client y.client u then y else u) c.self.inside.members.items =
    c.in_default-remake.ensures.rows
    ∙ ap (λ (z : Member). map (λ (u : Member). if is_client z.client u then z else u) c.self.inside.members.items)
    c.owner-founder.ensures in
    let masters : c.insert.new.self.items ≡ placed master_before z c.self.inside.masters.items =
    c.in-Ok.ensures.ok
    ∙ ap (λ (u : Master). placed master_before (calls.keyed_as key u) c.self.inside.masters.items)
    c.founded_master.ensures in
    let new = calls.with_device (Some b) (calls.changed_member y (calls.with_master z v)) in
    let mem = c.remake.new.self.items in
    let left = λ (l : List Member) (ms : List Master). let r : MasterSet = record { members = l; masters = filter (λ (u : Master). is_living l ms u.step_number) ms; device_master = Some b; last_magic = c.self.inside.last_magic; last_lessee = c.self.inside.last_lessee } in r in
    let swept_is : left mem c.insert.new.self.items ≡ swept new =
    (λ i. left (items i) (masters i))
    ∙ ap (λ (u : MasterSet). swept (calls.with_device (Some b) (calls.changed_member y (calls.with_master z u))))
    c.self.view_is in
    sound _ (swept new)
    ((λ i. record (set_of c.self.inside) { members = mem; masters = c.sweep_up.ensures i; device_master = Some b }) ∙ swept_is)
    (swept_are new t)
    (keyed_fewer new.masters (λ (u : Master). is_living new.members new.masters u.step_number) (keyed_more v.masters z key so.are.masters_rise so.keyed (ap (λ (w : MasterSet). find (is_key key) w.masters) (sym c.self.view_is) ∙ c.in-Ok.ensures.free) refl))

use Rattle.std.proofs.Common.{◌≡◌, ℕ, true, false, not, List, Option, None, Some, filter, refl, sym, ap, subst, ◌∙◌}
use Rattle.std.specs.Option.{is_some}
use Rattle.drm_masters.specs.declared.rows.Master.{Master}
use Rattle.drm_masters.specs.declared.rows.Member.{Member}
use Rattle.drm_masters.specs.Fields.{set_of}
use Rattle.drm_masters.specs.Masters.{MasterSet, AreMasters, member_of, master_at, is_client, IsKeyOf, is_living, swept}
use Rattle.drm_masters.specs.Calls as calls
use Rattle.drm_masters.proofs.Pushed.{kept_keyed, kept_key}
use Rattle.drm_masters.proofs.Upward.{OthersUsed}
use Rattle.drm_masters.proofs.MastersStaySound.{sound, swept_are, gone_ties, gone_used, own_are, client_found, master_there, at_step_number, keyed_fewer, known}
use Rattle.drm_masters.proofs.masters.Masters.on_close.Goals as goal
use Rattle.std.proofs.lemmas.Bool.{not-true, not-false}

pub sweep_up-requires-clause-others : goal.sweep_up-requires-clause-others
sweep_up-requires-clause-others c =
    let v = c.args.self.now in
    let are : AreMasters v = subst AreMasters c.self.view_is c.self.invariant.are in
    let look : member_of v.members c.args.client ≡ Some c.in_ok-member.member =
    sym (ap (λ (w : MasterSet). member_of w.members c.args.client) c.self.view_is) ∙ sym c.get.ensures
    ∙ c.in_ok-member.was in
    let x = c.in_ok-member.member in
    let is = client_found v.members c.args.client x look in
    let gone : c.remove.new.self.items ≡ filter (λ (u : Member). not (is_client x.client u)) v.members =
    c.remove.ensures ∙ ap (λ n. filter (λ (u : Member). not (is_client n u)) c.self.inside.members.items) (sym is.0) ∙ ap (λ (w : MasterSet). filter (λ (u : Member). not (is_client x.client u)) w.members) c.self.view_is in
    subst (λ l. OthersUsed l c.self.inside.masters.items x.master) (sym gone)
    (subst (λ (w : MasterSet). OthersUsed (filter (λ (u : Member). not (is_client x.client u)) v.members) w.masters x.master) (sym c.self.view_is) (gone_used v are x is.1))

pub invariant_of-self : goal.invariant_of-self
invariant_of-self c =
    let v = c.args.self.now in
    let so = known c.self.inside v c.self.view_is c.self.invariant in
    let look : member_of v.members c.args.client ≡ Some c.in_ok-member.member =
    sym (ap (λ (w : MasterSet). member_of w.members c.args.client) c.self.view_is) ∙ sym c.get.ensures
    ∙ c.in_ok-member.was in
    let x = c.in_ok-member.member in
    let is = client_found v.members c.args.client x look in
    let gone : c.remove.new.self.items ≡ filter (λ (u : Member). not (is_client x.client u)) c.self.inside.members.items =
    c.remove.ensures
    ∙ ap (λ n. filter (λ (u : Member). not (is_client n u)) c.self.inside.members.items) (sym is.0) in
    let left = λ (l : List Member). let r : MasterSet = record { members = l; masters = filter (λ (u : Master). is_living l c.self.inside.masters.items u.step_number) c.self.inside.masters.items; device_master = c.self.inside.device_master; last_magic = c.self.inside.last_magic; last_lessee = c.self.inside.last_lessee } in r in
    let path =
    (λ i. record (set_of c.self.inside) { members = c.remove.new.self.items; masters = c.sweep_up.ensures i })
    ∙ (λ i. left (gone i)) ∙ ap (λ (u : MasterSet). swept (calls.without_member x.client u)) c.self.view_is in
    let ties = gone_ties v so.are x is.1 (not-true x.is_master c.if-not-member.true) in
    sound _ (swept (calls.without_member x.client v)) path (swept_are (calls.without_member x.client v) ties)
    (keyed_fewer v.masters (λ (u : Master). is_living (calls.without_member x.client v).members v.masters u.step_number) so.keyed)

pub returns-then-not-member : goal.returns-then-not-member
returns-then-not-member c =
    let v = c.args.self.now in
    let so = known c.self.inside v c.self.view_is c.self.invariant in
    let look : member_of v.members c.args.client ≡ Some c.in_ok-member.member =
    sym (ap (λ (w : MasterSet). member_of w.members c.args.client) c.self.view_is) ∙ sym c.get.ensures
    ∙ c.in_ok-member.was in
    let x = c.in_ok-member.member in
    let is = client_found v.members c.args.client x look in
    let gone : c.remove.new.self.items ≡ filter (λ (u : Member). not (is_client x.client u)) c.self.inside.members.items =
    c.remove.ensures
    ∙ ap (λ n. filter (λ (u : Member). not (is_client n u)) c.self.inside.members.items) (sym is.0) in
    let left = λ (l : List Member). let r : MasterSet = record { members = l; masters = filter (λ (u : Master). is_living l c.self.inside.masters.items u.step_number) c.self.inside.masters.items; device_master = c.self.inside.device_master; last_magic = c.self.inside.last_magic; last_lessee = c.self.inside.last_lessee } in r in
    let path =
    (λ i. record (set_of c.self.inside) { members = c.remove.new.self.items; masters = c.sweep_up.ensures i })
    ∙ (λ i. left (gone i)) ∙ ap (λ (u : MasterSet). swept (calls.without_member x.client u)) c.self.view_is in
    let new : MasterSet =
    record
    { members = c.remove.new.self.items; masters = c.sweep_up.new.masters.items; device_master = c.self.inside.device_master; last_magic = c.self.inside.last_magic; last_lessee = c.self.inside.last_lessee }
    in
    subst (λ o. calls.ClosedBy v o None new) (sym look)
    (subst (λ b. calls.ClosedOf v x b None new) (sym (not-true x.is_master c.if-not-member.true)) (refl, path))

there_none : (o : Option Master) → is_some o ≡ true → o ≡ None → ⊥
there_none None h e = let n : false ≡ true = h in cc
there_none (Some x) h e = let n : Some x ≡ None = e in cc

pub unreachable-requires : goal.unreachable-requires
unreachable-requires c =
    let v = c.args.self.now in
    let are : AreMasters v = subst AreMasters c.self.view_is c.self.invariant.are in
    let look : member_of v.members c.args.client ≡ Some c.in_ok-member.member =
    sym (ap (λ (w : MasterSet). member_of w.members c.args.client) c.self.view_is) ∙ sym c.get.ensures
    ∙ c.in_ok-member.was in
    let x = c.in_ok-member.member in
    there_none (master_at v.masters x.master) (master_there v are c.args.client x look)
    (sym (ap (λ (w : MasterSet). master_at w.masters x.master) c.self.view_is) ∙ sym c.at.ensures ∙ c.in_default.is)

pub invariant_of-self-2 : goal.invariant_of-self-2
invariant_of-self-2 c =
    let v = c.args.self.now in
    let so = known c.self.inside v c.self.view_is c.self.invariant in
    let look : member_of v.members c.args.client ≡ Some c.in_ok-member.member =
    sym (ap (λ (w : MasterSet). member_of w.members c.args.client) c.self.view_is) ∙ sym c.get.ensures
    ∙ c.in_ok-member.was in
    let x = c.in_ok-member.member in
    let is = client_found v.members c.args.client x look in
    let gone : c.remove.new.self.items ≡ filter (λ (u : Member). not (is_client x.client u)) c.self.inside.members.items =
    c.remove.ensures
    ∙ ap (λ n. filter (λ (u : Member). not (is_client n u)) c.self.inside.members.items) (sym is.0) in
    sound _ (calls.closed_own x.client x.master v)
    ((λ i. record (set_of c.self.inside) { members = gone i; masters = c.set_kept.ensures i; device_master = c.device_without-self-inside.ensures i }) ∙ ap (calls.closed_own x.client x.master) c.self.view_is)
    (own_are v so.are x is.1) (kept_keyed x.master true v.masters so.keyed)

pub returns : goal.returns
returns c =
    let v = c.args.self.now in
    let so = known c.self.inside v c.self.view_is c.self.invariant in
    let look : member_of v.members c.args.client ≡ Some c.in_ok-member.member =
    sym (ap (λ (w : MasterSet). member_of w.members c.args.client) c.self.view_is) ∙ sym c.get.ensures
    ∙ c.in_ok-member.was in
    let x = c.in_ok-member.member in
    let is = client_found v.members c.args.client x look in
    let gone : c.remove.new.self.items ≡ filter (λ (u : Member). not (is_client x.client u)) c.self.inside.members.items =
    c.remove.ensures
    ∙ ap (λ n. filter (λ (u : Member). not (is_client n u)) c.self.inside.members.items) (sym is.0) in
    let new : MasterSet =
    record
    { members = c.remove.new.self.items; masters = c.set_kept.new.self.items; device_master = c.device_without-self-inside.result; last_magic = c.self.inside.last_magic; last_lessee = c.self.inside.last_lessee }
    in
    let found : master_at v.masters x.master ≡ Some c.in-Some.master =
    sym (ap (λ (w : MasterSet). master_at w.masters x.master) c.self.view_is) ∙ sym c.at.ensures ∙ c.in-Some.is in
    let num : c.in-Some.master.step_number ≡ x.master = (at_step_number v.masters x.master c.in-Some.master found).0 in
    let key =
    kept_key x.master true v.masters so.keyed c.in-Some.master
    (at_step_number v.masters x.master c.in-Some.master found).1 in
    let masters : c.set_kept.new.self.items ≡ (calls.with_kept x.master true v).masters =
    c.set_kept.ensures ∙ ap (λ (w : MasterSet). (calls.with_kept x.master true w).masters) c.self.view_is in
    let own_key : (key : ℕ) × (Some c.in-Some.master.key ≡ Some key) × IsKeyOf new.masters x.master key =
    (c.in-Some.master.key, refl, subst (λ l. IsKeyOf l x.master c.in-Some.master.key) (sym masters) (subst (λ n. IsKeyOf (calls.with_kept x.master true v).masters n c.in-Some.master.key) num key))
    in
    subst (λ o. calls.ClosedBy v o (Some c.in-Some.master.key) new) (sym look) (subst (λ b. calls.ClosedOf v x b (Some c.in-Some.master.key) new) (sym (not-false x.is_master c.if-not-member.false))
    (own_key, (λ i. record (set_of c.self.inside) { members = gone i; masters = c.set_kept.ensures i; device_master = c.device_without-self-inside.ensures i }) ∙ ap (calls.closed_own x.client x.master) c.self.view_is))

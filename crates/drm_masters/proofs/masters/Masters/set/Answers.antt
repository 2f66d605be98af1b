use Rattle.std.proofs.Common.{◌≡◌, ◌==◌, Bool, true, false, ◌&&◌, None, Some, refl, sym, ap, subst, ◌∙◌, eq-eqb}
use Rattle.std.specs.Prelude.{IfSome, ◌||◌, Ok}
use Rattle.std.specs.Option.{is_some}
use Rattle.drm_index_array.proofs.FoundInLists.{is_some-false}
use Rattle.drm_table.specs.Permit.{first_failing}
use Rattle.drm_index_array.proofs.Rising.{any_found}
use Rattle.drm_masters.specs.declared.faults.SetDone.TheVariants.{Made}
use Rattle.drm_masters.specs.declared.rows.Member.{Member}
use Rattle.drm_masters.specs.Calls.{set_checks}
use Rattle.drm_masters.specs.Fields.{set_of}
use Rattle.drm_masters.specs.Masters.{MasterSet, member_of, is_client, lessor_of, is_current_member}
use Rattle.drm_masters.specs.Calls as calls
use Rattle.drm_masters.proofs.MastersStaySound.{sound, device_are, client_found, known}
use Rattle.drm_masters.proofs.masters.Masters.set.Goals as goal
use Rattle.std.proofs.lemmas.Bool.{not-true, not-false, and_from}

pub found-requires-clause-none : goal.found-requires-clause-none
found-requires-clause-none c =
    sym (ap (λ (w : MasterSet). w.device_master) c.self.view_is)
    ∙ is_some-false c.self.inside.device_master (sym c.is_some.ensures ∙ c.if-is_some.false)

pub is_current_among-requires : goal.is_current_among-requires
is_current_among-requires c =
    record { older = c.self.invariant.are.lessors_older; top = c.self.invariant.are.device_owner }

pub invariant_of-self : goal.invariant_of-self
invariant_of-self c =
    let v = c.args.self.now in
    let so = known c.self.inside v c.self.view_is c.self.invariant in
    let look : member_of v.members c.args.client ≡ Some c.in-Some.member =
    sym (ap (λ (w : MasterSet). member_of w.members c.args.client) c.self.view_is) ∙ sym c.get.ensures
    ∙ c.in-Some.is in
    let x = c.in-Some.member in
    let path = ap (calls.with_device (Some x.master)) c.self.view_is in
    let top : lessor_of v.masters x.master ≡ None =
    is_some-false (lessor_of v.masters x.master)
    (ap (λ (w : MasterSet). is_some (lessor_of w.masters x.master)) (sym c.self.view_is) ∙ ap is_some (sym c.lessor_of.ensures) ∙ sym c.is_some-2.ensures ∙ c.if-is_some-2.false)
    in
    sound _ (calls.with_device (Some x.master) v)
    ((λ i. record (set_of c.self.inside) { device_master = Some x.master }) ∙ path)
    (device_are v so.are (Some x.master) (λ m e. any_found (is_client c.args.client) (λ (y : Member). y.is_master && (y.master == m)) x v.members look
    (and_from x.is_master (x.master == m) (not-false x.is_master c.if-not-member.false) (eq-eqb x.master m (let s : Some x.master ≡ Some m = e in cc))))
    (λ m e. subst (λ n. lessor_of v.masters n ≡ None) (let s : x.master ≡ m = cc in s) top)) so.keyed

verdict : (v : MasterSet) (x : Member) (root : Bool) → (x.once_master || root) ≡ true → is_current_member v x ≡ false
    → v.device_master ≡ None → x.is_master ≡ false → first_failing (calls.set_checks v x root) ≡ None
unfolding set_checks
verdict v x root may current none own = rw (may, current, none, own) refl

pub returns-then-not-member-clause-set : goal.returns-then-not-member-clause-set
returns-then-not-member-clause-set c =
    let v = c.args.self.now in
    let so = known c.self.inside v c.self.view_is c.self.invariant in
    let look : member_of v.members c.args.client ≡ Some c.in-Some.member =
    sym (ap (λ (w : MasterSet). member_of w.members c.args.client) c.self.view_is) ∙ sym c.get.ensures
    ∙ c.in-Some.is in
    let x = c.in-Some.member in
    let num : x.client ≡ c.args.client = (client_found v.members c.args.client x look).0 in
    let may : (x.once_master || c.args.root) ≡ true = sym c.is_permitted.ensures ∙ c.if-not-is_permitted.false in
    let current : is_current_member v x ≡ false =
    sym (ap (λ (w : MasterSet). is_current_member w x) c.self.view_is) ∙ sym c.is_current_among.ensures
    ∙ c.if-is_current_among.false in
    let none : v.device_master ≡ None =
    sym (ap (λ (w : MasterSet). w.device_master) c.self.view_is)
    ∙ is_some-false c.self.inside.device_master (sym c.is_some.ensures ∙ c.if-is_some.false) in
    let own : x.is_master ≡ false = not-true x.is_master c.if-not-member.true in
    let key = c.in_default-found.field-0 in
    let made = c.in_default-found.ensures.ok ∙ ap (λ n. calls.remade n key c.args.birth v) (sym num) in
    subst (λ o. IfSome o (λ z. calls.SetOf v z c.args.root c.args.birth (Ok Made) c.found.new.self)) (sym look)
    (verdict v x c.args.root may current none own, (current, own, (key, c.in_default-found.ensures.free, made)))

use Rattle.std.proofs.Common.{◌≡◌, false, Some, find, refl, sym, ap, ◌∙◌}
use Rattle.drm_index_array.specs.Rows.{placed}
use Rattle.drm_masters.specs.declared.rows.Member.{Member}
use Rattle.drm_masters.specs.Fields.{set_of}
use Rattle.drm_masters.specs.Masters.{MasterSet, is_key, member_before}
use Rattle.drm_masters.specs.Calls as calls
use Rattle.drm_masters.proofs.Pushed.{kept_keyed}
use Rattle.drm_masters.proofs.MastersStaySound.{sound, redeemed_are, of_key, known}
use Rattle.drm_masters.proofs.masters.Masters.on_redeem.Goals as goal

pub invariant_of-self-2 : goal.invariant_of-self-2
invariant_of-self-2 c =
    let v = c.args.self.now in
    let so = known c.self.inside v c.self.view_is c.self.invariant in
    let m = c.in-Some.redeemed.step_number in
    let y = calls.lease_client c.args.client m in
    let items : c.add.new.self.items ≡ placed member_before y c.self.inside.members.items =
    c.in_default-add.ensures.ok
    ∙ ap (λ (x : Member). placed member_before x c.self.inside.members.items) c.lease_client-member.ensures in
    let found : find (is_key c.args.master) v.masters ≡ Some c.in-Some.redeemed =
    sym (ap (λ (w : MasterSet). find (is_key c.args.master) w.masters) c.self.view_is) ∙ sym c.of_key.ensures
    ∙ c.in-Some.is in
    sound _ (calls.redeemed c.args.client m v)
    ((λ i. record (set_of c.self.inside) { members = items i; masters = c.set_kept.ensures i }) ∙ ap (calls.redeemed c.args.client m) c.self.view_is)
    (redeemed_are v so.are y c.requires.new_client c.requires.room refl (of_key v.masters c.args.master c.in-Some.redeemed found).1 refl)
    (kept_keyed m false v.masters so.keyed)

use Rattle.std.proofs.Common.{◌≡◌, true, Some, find, map, refl, sym, ap, subst, ◌∙◌}
use Rattle.std.specs.Prelude.{IfSome, if◌then◌else◌}
use Rattle.drm_masters.specs.declared.rows.Member.{Member}
use Rattle.drm_masters.specs.Fields.{set_of}
use Rattle.drm_masters.specs.Masters.{MasterSet, AreMasters, member_of, is_client, has_open_magic}
use Rattle.drm_masters.specs.Calls as calls
use Rattle.drm_masters.proofs.MastersStaySound.{sound, spent_are, open_found, known}
use Rattle.drm_masters.proofs.masters.Masters.auth.Goals as goal

pub set-requires : goal.set-requires
set-requires c =
    let v = c.args.self.now in
    let are : AreMasters v = subst AreMasters c.self.view_is c.self.invariant.are in
    let x = c.in-Some-find_open_magic.found in
    let m = c.in-Some.member.master in
    let found : find (has_open_magic m c.args.number) v.members ≡ Some x =
    sym (ap (λ (w : MasterSet). find (has_open_magic m c.args.number) w.members) c.self.view_is)
    ∙ sym c.find_open_magic.ensures ∙ c.in-Some-find_open_magic.is in
    let look : member_of c.self.inside.members.items x.client ≡ Some x =
    ap (λ (w : MasterSet). member_of w.members x.client) c.self.view_is
    ∙ (open_found v are (has_open_magic m c.args.number) x found).1 in
    record { stays = subst (λ (z : Member). IfSome (member_of c.self.inside.members.items z.client) (λ y. y.master ≡ z.master)) (sym c.with_magic.ensures) (subst (λ o. IfSome o (λ (y : Member). y.master ≡ x.master)) (sym look) refl) }

pub invariant_of-self : goal.invariant_of-self
invariant_of-self c =
    let so = known c.self.inside c.args.self.now c.self.view_is c.self.invariant in
    let x = c.in-Some-find_open_magic.found in
    let m = c.in-Some.member.master in
    let y = calls.with_magic c.args.number true x in
    let items : c.set.new.self.items ≡ map (λ (x : Member). if is_client y.client x then y else x) c.self.inside.members.items =
    c.set.ensures
    ∙ ap (λ (z : Member). map (λ (x : Member). if is_client z.client x then z else x) c.self.inside.members.items)
    c.with_magic.ensures in
    let found : find (has_open_magic m c.args.number) c.args.self.now.members ≡ Some x =
    sym (ap (λ (w : MasterSet). find (has_open_magic m c.args.number) w.members) c.self.view_is)
    ∙ sym c.find_open_magic.ensures ∙ c.in-Some-find_open_magic.is in
    let is = open_found c.args.self.now so.are (has_open_magic m c.args.number) x found in
    sound _ (calls.changed_member y c.args.self.now)
    ((λ i. record (set_of c.self.inside) { members = items i }) ∙ ap (calls.changed_member y) c.self.view_is)
    (spent_are c.args.self.now so.are x is.1 c.args.number m is.0) so.keyed

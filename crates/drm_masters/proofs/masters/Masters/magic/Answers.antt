use Rattle.std.proofs.Common.{◌≡◌, false, not, Option, None, Some, map, refl, sym, ap, subst, ◌∙◌, arith}
use Rattle.std.proofs.lemmas.Bool.{not-true}
use Rattle.std.specs.Prelude.{if◌then◌else◌, IfSome}
use Rattle.std.specs.List.{list_any}
use Rattle.drm_index_array.specs.Least.{least}
use Rattle.drm_index_array.proofs.Least.{least_some}
use Rattle.drm_masters.specs.declared.rows.Magic.{Magic}
use Rattle.drm_masters.specs.declared.rows.Member.{Member}
use Rattle.drm_masters.specs.Fields.{set_of}
use Rattle.drm_masters.specs.Masters.{MasterSet, member_of, is_client, has_magic}
use Rattle.drm_masters.specs.Calls as calls
use Rattle.drm_masters.proofs.FreeMagics.{number_free}
use Rattle.drm_masters.proofs.MastersStaySound.{sound, given_are, client_found, known}
use Rattle.drm_masters.proofs.masters.Masters.magic.Goals as goal

pub unreachable-requires-in_default-free_magic : goal.unreachable-requires-in_default-free_magic
unreachable-requires-in_default-free_magic c =
    let so = known c.self.inside c.args.self.now c.self.view_is c.self.invariant in
    let look : member_of c.args.self.now.members c.args.client ≡ Some c.in-Some.member =
    sym (ap (λ (w : MasterSet). member_of w.members c.args.client) c.self.view_is) ∙ sym c.get.ensures
    ∙ c.in-Some.is in
    let x = c.in-Some.member in
    let none : x.magic ≡ None = c.in_default-magic.is in
    let taken : least (λ n. not (list_any (has_magic x.master n) c.args.self.now.members)) 1 c.self.inside.last_magic ≡ None =
    sym
    (ap (λ (w : MasterSet). least (λ n. not (list_any (has_magic x.master n) w.members)) 1 c.self.inside.last_magic) c.self.view_is)
    ∙ sym c.free_magic.ensures ∙ c.in_default-free_magic.is in
    let few = so.are.few in
    let last : c.self.inside.last_magic ≡ c.args.self.now.last_magic =
    ap (λ (w : MasterSet). w.last_magic) c.self.view_is in
    number_free x.master c.self.inside.last_magic x c.args.self.now.members
    (client_found c.args.self.now.members c.args.client x look).1 none (omega (arith, few, last)) taken

pub set-requires : goal.set-requires
set-requires c =
    let x = c.in-Some.member in
    let look : member_of c.args.self.now.members c.args.client ≡ Some x =
    sym (ap (λ (w : MasterSet). member_of w.members c.args.client) c.self.view_is) ∙ sym c.get.ensures
    ∙ c.in-Some.is in
    let here : member_of c.self.inside.members.items x.client ≡ Some x =
    ap (λ (w : MasterSet). member_of w.members x.client) c.self.view_is
    ∙ (client_found c.args.self.now.members c.args.client x look).1 in
    record { stays = subst (λ (z : Member). IfSome (member_of c.self.inside.members.items z.client) (λ y. y.master ≡ z.master)) (sym c.with_magic.ensures) (subst (λ o. IfSome o (λ (y : Member). y.master ≡ x.master)) (sym here) refl) }

pub invariant_of-self : goal.invariant_of-self
invariant_of-self c =
    let so = known c.self.inside c.args.self.now c.self.view_is c.self.invariant in
    let look : member_of c.args.self.now.members c.args.client ≡ Some c.in-Some.member =
    sym (ap (λ (w : MasterSet). member_of w.members c.args.client) c.self.view_is) ∙ sym c.get.ensures
    ∙ c.in-Some.is in
    let x = c.in-Some.member in
    let n = c.in-Some-free_magic.number in
    let y = calls.with_magic n false x in
    let items : c.set.new.self.items ≡ map (λ (x : Member). if is_client y.client x then y else x) c.self.inside.members.items =
    c.set.ensures
    ∙ ap (λ (z : Member). map (λ (x : Member). if is_client z.client x then z else x) c.self.inside.members.items)
    c.with_magic.ensures in
    let least_is : least (λ k. not (list_any (has_magic x.master k) c.args.self.now.members)) 1 c.self.inside.last_magic ≡ Some n =
    sym
    (ap (λ (w : MasterSet). least (λ k. not (list_any (has_magic x.master k) w.members)) 1 c.self.inside.last_magic) c.self.view_is)
    ∙ sym c.free_magic.ensures ∙ c.in-Some-free_magic.is in
    let free =
    (least_some (λ k. not (list_any (has_magic x.master k) c.args.self.now.members)) 1 c.self.inside.last_magic n least_is).passes
    in
    sound _ (calls.changed_member y c.args.self.now)
    ((λ i. record (set_of c.self.inside) { members = items i }) ∙ ap (calls.changed_member y) c.self.view_is)
    (given_are c.args.self.now so.are x (client_found c.args.self.now.members c.args.client x look).1 n (not-true _ free))
    so.keyed

pub returns-clause-given : goal.returns-clause-given
returns-clause-given c =
    let look : member_of c.args.self.now.members c.args.client ≡ Some c.in-Some.member =
    sym (ap (λ (w : MasterSet). member_of w.members c.args.client) c.self.view_is) ∙ sym c.get.ensures
    ∙ c.in-Some.is in
    let x = c.in-Some.member in
    let n = c.in-Some-free_magic.number in
    let y = calls.with_magic n false x in
    let new : MasterSet =
    record
    { members = c.set.new.self.items; masters = c.self.inside.masters.items; device_master = c.self.inside.device_master; last_magic = c.self.inside.last_magic; last_lessee = c.self.inside.last_lessee }
    in
    let items : c.set.new.self.items ≡ map (λ (x : Member). if is_client y.client x then y else x) c.self.inside.members.items =
    c.set.ensures
    ∙ ap (λ (z : Member). map (λ (x : Member). if is_client z.client x then z else x) c.self.inside.members.items)
    c.with_magic.ensures in
    let least_is : least (λ k. not (list_any (has_magic x.master k) c.args.self.now.members)) 1 c.args.self.now.last_magic ≡ Some n =
    sym
    (ap (λ (w : MasterSet). least (λ k. not (list_any (has_magic x.master k) w.members)) 1 w.last_magic) c.self.view_is)
    ∙ sym c.free_magic.ensures ∙ c.in-Some-free_magic.is in
    let given : calls.GaveMagic c.args.self.now x x.magic n new =
    subst (λ (g : Option Magic). calls.GaveMagic c.args.self.now x g n new) (sym c.in_default-magic.is)
    (least_is, (λ i. record (set_of c.self.inside) { members = items i }) ∙ ap (calls.changed_member y) c.self.view_is)
    in
    subst (λ o. IfSome o (λ (z : Member). calls.GaveMagic c.args.self.now z z.magic n new)) (sym look) given

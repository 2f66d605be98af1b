use Rattle.std.proofs.Common.{◌≡◌, Some, option_map, ap, sym, subst, ◌∙◌}
use Rattle.std.specs.Prelude.{IfSome}
use Rattle.std.specs.FinMap as fin
use Rattle.drm_id_alloc.specs.Groups.{has}
use Rattle.drm_id_alloc.proofs.GroupLemmas.{grouped_kept}
use Rattle.drm_masters.specs.declared.rows.Member.{Member}
use Rattle.drm_masters.specs.Masters.{member_of}
use Rattle.drm_masters.specs.Tables.{MemberRows, member_row}
use Rattle.drm_masters.proofs.ClientList.{client_is, client_absent, client_changed}
use Rattle.drm_masters.proofs.ClientsOfMasters.{master_of}
use Rattle.drm_masters.proofs.members.Members.set.Goals as goal

pub returns-in_default : goal.returns-in_default
returns-in_default c =
    rw (← c.self.view_is)
    (client_absent c.self.inside.clients.items c.args.member.client c.args.member (sym c.in_default.ensures.value))

pub invariant_of-self-2 : goal.invariant_of-self-2
invariant_of-self-2 c =
    let clients = c.self.inside.clients.items in
    let n = c.args.member.client in
    let x = c.in-Some.kept.now in
    let there : fin.get clients n ≡ Some x = sym c.in-Some.ensures.value in
    let look : member_of c.args.self.now.items n ≡ Some (member_row (n, x)) =
    sym (ap (λ (v : MemberRows). member_of v.items n) c.self.view_is) ∙ client_is clients n
    ∙ ap (option_map (λ v. member_row (n, v))) there in
    let same : x.master ≡ c.args.member.master =
    subst (λ o. IfSome o (λ (y : Member). y.master ≡ c.args.member.master)) look c.requires.stays in
    grouped_kept master_of clients (has c.self.inside.named) (has c.self.inside.named) c.self.invariant n x
    c.kept_of.result there (ap (λ (y : Member). y.master) c.kept_of.ensures ∙ sym same)

pub returns : goal.returns
returns c =
    rw (← c.self.view_is)
    (client_changed c.self.inside.clients.items c.args.member.client c.in-Some.kept.now c.kept_of.result c.args.member c.kept_of.ensures (sym c.in-Some.ensures.value))

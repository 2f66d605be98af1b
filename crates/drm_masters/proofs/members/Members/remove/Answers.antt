use Rattle.std.proofs.Common.{not, filter, refl, ap, sym, ◌∙◌}
use Rattle.drm_index_array.specs.Indexed.{Indexed}
use Rattle.drm_id_alloc.specs.Groups.{has}
use Rattle.drm_id_alloc.proofs.GroupLemmas.{grouped_fewer}
use Rattle.drm_masters.specs.declared.members.Membership.{Membership}
use Rattle.drm_masters.specs.declared.rows.Member.{Member}
use Rattle.drm_masters.specs.Masters.{is_client}
use Rattle.drm_masters.specs.Tables.{MemberRows, members_in}
use Rattle.drm_masters.proofs.ClientList.{client_removed}
use Rattle.drm_masters.proofs.ClientsOfMasters.{master_of}
use Rattle.drm_masters.proofs.members.Members.remove.Goals as goal

pub returns-in_default : goal.returns-in_default
returns-in_default c =
    ap (λ (a : Indexed Membership). members_in a.items) c.remove.ensures.after
    ∙ client_removed c.self.inside.clients.items c.args.client
    ∙ ap (λ (v : MemberRows). filter (λ (x : Member). not (is_client c.args.client x)) v.items) c.self.view_is

pub invariant_of-self-2 : goal.invariant_of-self-2
invariant_of-self-2 c =
    rw c.remove.ensures.after
    (grouped_fewer master_of c.self.inside.clients.items (has c.self.inside.named) (has c.forget.new.self) c.self.invariant c.args.client c.in-Some.kept c.in-Some.kept.master (sym c.in-Some.ensures.value) refl c.forget.ensures)

pub returns : goal.returns
returns c =
    ap (λ (a : Indexed Membership). members_in a.items) c.remove.ensures.after
    ∙ client_removed c.self.inside.clients.items c.args.client
    ∙ ap (λ (v : MemberRows). filter (λ (x : Member). not (is_client c.args.client x)) v.items) c.self.view_is

use Rattle.std.proofs.Common.{Some, option_map, ap, sym, ◌∙◌}
use Rattle.drm_masters.specs.Masters.{member_of}
use Rattle.drm_masters.specs.Tables.{MemberRows, member_row}
use Rattle.drm_masters.proofs.ClientList.{client_is}
use Rattle.drm_masters.proofs.members.Members.get.Goals as goal

pub returns-in_err-membership : goal.returns-in_err-membership
returns-in_err-membership c =
    c.from_residual.ensures ∙ ap (option_map (λ v. member_row (c.args.client, v))) c.in_err-membership.ensures.value
    ∙ sym (client_is c.self.inside.clients.items c.args.client)
    ∙ ap (λ (v : MemberRows). member_of v.items c.args.client) c.self.view_is

pub returns : goal.returns
returns c =
    ap Some c.row_of.ensures ∙ ap (option_map (λ v. member_row (c.args.client, v))) c.in_ok-membership.ensures.value
    ∙ sym (client_is c.self.inside.clients.items c.args.client)
    ∙ ap (λ (v : MemberRows). member_of v.items c.args.client) c.self.view_is

use Rattle.std.proofs.Common.{option_and_then, slice_get, ap, sym, ◌∙◌}
use Rattle.drm_masters.specs.Masters.{member_of}
use Rattle.drm_masters.specs.Tables.{MemberRows, members_in}
use Rattle.drm_masters.proofs.ClientList.{client_at}
use Rattle.drm_masters.proofs.members.Members.nth.Goals as goal

pub returns-in_err-client : goal.returns-in_err-client
returns-in_err-client c =
    let clients = c.self.inside.clients.items in
    c.from_residual.ensures ∙ ap (option_and_then (member_of (members_in clients))) c.in_err-client.ensures.nth
    ∙ client_at clients c.args.position
    ∙ ap (λ (v : MemberRows). slice_get v.items c.args.position) c.self.view_is

pub returns : goal.returns
returns c =
    let clients = c.self.inside.clients.items in
    c.get.ensures ∙ ap (λ (v : MemberRows). member_of v.items c.in_ok-client.client) (sym c.self.view_is)
    ∙ ap (option_and_then (member_of (members_in clients))) c.in_ok-client.ensures.nth
    ∙ client_at clients c.args.position
    ∙ ap (λ (v : MemberRows). slice_get v.items c.args.position) c.self.view_is

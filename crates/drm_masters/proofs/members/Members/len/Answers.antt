use Rattle.std.proofs.Common.{length, sym, ap, ◌∙◌}
use Rattle.drm_masters.specs.Tables.{MemberRows}
use Rattle.drm_masters.proofs.ClientList.{clients_many}
use Rattle.drm_masters.proofs.members.Members.len.Goals as goal

pub returns : goal.returns
returns c =
    c.len.ensures.len ∙ sym (clients_many c.self.inside.clients.items)
    ∙ ap (λ (v : MemberRows). length v.items) c.self.view_is

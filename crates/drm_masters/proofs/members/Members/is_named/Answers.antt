use Rattle.std.proofs.Common.{◌==◌, ap, ◌∙◌}
use Rattle.std.specs.List.{list_any}
use Rattle.drm_masters.specs.Tables.{MemberRows}
use Rattle.drm_masters.proofs.ClientsOfMasters.{any_named}
use Rattle.drm_masters.proofs.members.Members.is_named.Goals as goal

pub returns : goal.returns
returns c =
    c.is_some.ensures
    ∙ any_named c.self.inside.clients.items c.self.inside.named c.self.invariant c.args.master c.next.result
    c.next.ensures.least c.next.ensures.none_above
    ∙ ap (λ (v : MemberRows). list_any (λ x. x.master == c.args.master) v.items) c.self.view_is

use Rattle.std.proofs.Common.{ap, sym, ◌∙◌}
use Rattle.drm_leases.specs.Leases.{token_master}
use Rattle.drm_leases.specs.Tokens.{TokenRows}
use Rattle.drm_leases.proofs.OpenTokens.{lessee_is}
use Rattle.drm_leases.proofs.tokens.LeaseTokens.lessee.Goals as goal

pub returns : goal.returns
returns c =
    c.copied.ensures ∙ c.get.ensures.value ∙ sym (lessee_is c.self.inside.lessees.slots c.args.token)
    ∙ ap (λ (l : TokenRows). token_master l.rows c.args.token) c.self.view_is

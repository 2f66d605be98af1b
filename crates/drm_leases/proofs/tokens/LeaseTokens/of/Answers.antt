use Rattle.std.proofs.Common.{refl, ap, ◌∙◌}
use Rattle.drm_id_alloc.proofs.BothWays.{number_is}
use Rattle.drm_leases.specs.Leases.{is_token_of, token_of}
use Rattle.drm_leases.specs.Tokens.{TokenRows, token_row}
use Rattle.drm_leases.proofs.OpenTokens.{number_of}
use Rattle.drm_leases.proofs.tokens.LeaseTokens.of.Goals as goal

pub returns : goal.returns
returns c =
    c.copied.ensures ∙ c.get.ensures.value
    ∙ number_is c.self.inside.lessees.slots c.self.inside.tokens.items c.self.invariant.ways token_row number_of
    (λ e. refl) is_token_of (λ k e. refl) c.args.lessee
    ∙ ap (λ (l : TokenRows). token_of l.rows c.args.lessee) c.self.view_is

use Rattle.std.proofs.Common.{sym, ◌∙◌}
use Rattle.drm_id_alloc.proofs.Cyclic.{full_is}
use Rattle.drm_leases.proofs.OpenTokens.{next_token_is}
use Rattle.drm_leases.proofs.tokens.LeaseTokens.is_full.Goals as goal

pub returns : goal.returns
returns c =
    let t = c.self.inside.lessees in
    let full = full_is t c.self.invariant.numbered in
    let next = next_token_is t c.self.invariant.numbered.first_is in
    rw (← c.self.view_is)
    ((λ is. next ∙ full.0 (c.is_full.ensures.0 is)), λ none. c.is_full.ensures.1 (full.1 (sym next ∙ none)))

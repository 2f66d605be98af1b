use Rattle.std.proofs.Common.{sym, ◌∙◌}
use Rattle.drm_id_alloc.proofs.Cyclic.{full_is}
use Rattle.drm_share.proofs.TokenFacts.{next_token_is}
use Rattle.drm_share.proofs.tokens.Tokens.is_full.Goals as goal

pub returns : goal.returns
returns c =
    let exports = c.self.inside.exports in
    let full = full_is exports c.self.invariant.numbered in
    let next = next_token_is exports c.self.invariant.numbered.first_is in
    rw (← c.self.view_is)
    ((λ yes. next ∙ full.0 (c.is_full.ensures.0 yes)), λ none. c.is_full.ensures.1 (full.1 (sym next ∙ none)))

use Rattle.drm_share.proofs.TokenFacts.{tokens_are}
use Rattle.drm_share.proofs.tokens.Tokens.last_given.Goals as goal

pub returns-clause-tokens : goal.returns-clause-tokens
returns-clause-tokens c = rw (← c.self.view_is) (tokens_are c.self.inside.exports c.self.invariant.numbered)

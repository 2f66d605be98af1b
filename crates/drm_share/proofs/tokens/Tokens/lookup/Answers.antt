use Rattle.std.proofs.Common.{ap, sym, ◌∙◌, find, option_map}
use Rattle.drm_share.specs.declared.tokens.Export.{Export}
use Rattle.drm_share.specs.Tokens.{TokenList, is_token}
use Rattle.drm_share.proofs.TokenFacts.{object_is, tokens_are}
use Rattle.drm_share.proofs.tokens.Tokens.lookup.Goals as goal

pub returns-in_err-found-clause-object : goal.returns-in_err-found-clause-object
returns-in_err-found-clause-object c =
    c.from_residual.ensures
    ∙ ap (option_map (λ (v : Export). v.object)) c.in_err-found.ensures.value
    ∙ sym (object_is c.self.inside.exports c.args.token)
    ∙ ap (λ (l : TokenList). option_map (λ row. row.object) (find (is_token c.args.token) l.tokens)) c.self.view_is

pub returns-in_err-found-clause-tokens : goal.returns-in_err-found-clause-tokens
returns-in_err-found-clause-tokens c =
    rw (← c.self.view_is) (tokens_are c.self.inside.exports c.self.invariant.numbered)

pub returns-clause-object : goal.returns-clause-object
returns-clause-object c =
    ap (option_map (λ (v : Export). v.object)) c.in_ok-found.ensures.value
    ∙ sym (object_is c.self.inside.exports c.args.token)
    ∙ ap (λ (l : TokenList). option_map (λ row. row.object) (find (is_token c.args.token) l.tokens)) c.self.view_is

pub returns-clause-tokens : goal.returns-clause-tokens
returns-clause-tokens c = rw (← c.self.view_is) (tokens_are c.self.inside.exports c.self.invariant.numbered)

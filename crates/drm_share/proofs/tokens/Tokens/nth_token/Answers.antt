use Rattle.std.proofs.Common.{ap, ◌∙◌, slice_get, option_map, option_and_then}
use Rattle.std.specs.FinMap as fin
use Rattle.drm_index_array.proofs.RowsByKey.{row_at}
use Rattle.drm_share.specs.Tokens.{TokenList}
use Rattle.drm_share.specs.Tables.{token_row}
use Rattle.drm_share.proofs.TokenFacts.{tokens_are}
use Rattle.drm_share.proofs.tokens.Tokens.nth_token.Goals as goal

pub returns-in_err-token-clause-row : goal.returns-in_err-token-clause-row
returns-in_err-token-clause-row c =
    let slots = c.self.inside.exports.slots in
    c.from_residual.ensures
    ∙ ap (option_and_then (λ n. option_map (λ v. token_row (n, v)) (fin.get slots n))) c.in_err-token.ensures.nth
    ∙ row_at slots 0 token_row c.args.position
    ∙ ap (λ (l : TokenList). slice_get l.tokens c.args.position) c.self.view_is

pub returns-in_err-export-clause-row : goal.returns-in_err-export-clause-row
returns-in_err-export-clause-row c =
    let slots = c.self.inside.exports.slots in
    c.from_residual-in_err-export.ensures
    ∙ ap (option_map (λ v. token_row (c.in_ok-token.token, v))) c.in_err-export.ensures.value
    ∙ ap (option_and_then (λ n. option_map (λ v. token_row (n, v)) (fin.get slots n))) c.in_ok-token.ensures.nth
    ∙ row_at slots 0 token_row c.args.position
    ∙ ap (λ (l : TokenList). slice_get l.tokens c.args.position) c.self.view_is

pub returns-clause-row : goal.returns-clause-row
returns-clause-row c =
    let slots = c.self.inside.exports.slots in
    ap (option_map (λ v. token_row (c.in_ok-token.token, v))) c.in_ok-export.ensures.value
    ∙ ap (option_and_then (λ n. option_map (λ v. token_row (n, v)) (fin.get slots n))) c.in_ok-token.ensures.nth
    ∙ row_at slots 0 token_row c.args.position
    ∙ ap (λ (l : TokenList). slice_get l.tokens c.args.position) c.self.view_is

pub returns-in_err-token-clause-tokens : goal.returns-in_err-token-clause-tokens
returns-in_err-token-clause-tokens c =
    rw (← c.self.view_is) (tokens_are c.self.inside.exports c.self.invariant.numbered)

pub returns-in_err-export-clause-tokens : goal.returns-in_err-export-clause-tokens
returns-in_err-export-clause-tokens c =
    rw (← c.self.view_is) (tokens_are c.self.inside.exports c.self.invariant.numbered)

pub returns-clause-tokens : goal.returns-clause-tokens
returns-clause-tokens c = rw (← c.self.view_is) (tokens_are c.self.inside.exports c.self.invariant.numbered)

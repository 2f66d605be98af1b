use Rattle.std.proofs.Common.{refl, ap, sym, ◌∙◌, find, option_map, arith}
use Rattle.drm_id_alloc.proofs.GroupLemmas.{grouped_fewer}
use Rattle.drm_id_alloc.proofs.Grouped.{least_there, least_of_group, no_row_of_group, first_row_of_group}
use Rattle.drm_share.specs.declared.tokens.Export.{Export}
use Rattle.drm_id_alloc.specs.Groups.{has}
use Rattle.drm_share.specs.Tokens.{TokenList, is_exported_by, without_token}
use Rattle.drm_share.specs.Tables.{token_list, token_row}
use Rattle.drm_share.proofs.TokenFacts.{token_closed, is-closed, tokens_are}
use Rattle.drm_share.proofs.tokens.Tokens.take_first_of.Goals as goal

pub returns-in_err-token-clause-first : goal.returns-in_err-token-clause-first
returns-in_err-token-clause-first c =
    let within = c.self.invariant.numbered.within in
    let none =
    no_row_of_group (λ (x : Export). x.client) c.self.inside.exports.slots (has c.self.inside.owned) c.self.invariant.owners c.args.client token_row (is_exported_by c.args.client) (λ e. refl) (λ k there. omega (arith, within.high k there, within.fits)) (sym c.in_err-token.ensures.least) in
    c.from_residual.ensures
    ∙ ap (option_map (λ row. (row.token, row.object))) (sym none)
    ∙ ap (λ (l : TokenList). option_map (λ row. (row.token, row.object)) (find (is_exported_by c.args.client) l.tokens))
    c.self.view_is

pub returns-in_err-token-clause-tokens : goal.returns-in_err-token-clause-tokens
returns-in_err-token-clause-tokens c =
    rw (← c.self.view_is) (tokens_are c.self.inside.exports c.self.invariant.numbered)

pub unreachable-requires : goal.unreachable-requires
unreachable-requires c =
    least_there (λ (x : Export). x.client) c.self.inside.exports.slots (has c.self.inside.owned) c.self.invariant.owners
    c.args.client c.in_ok-token.token (sym c.in_ok-token.ensures.least) (sym c.in_default.ensures.value)

pub invariant_of-self : goal.invariant_of-self
invariant_of-self c =
    let t = c.self.inside.exports in
    let m = c.self.inside.owned in
    let at = sym c.in-Some.ensures.value in
    let mine =
    least_of_group (λ (x : Export). x.client) t.slots (has m) c.self.invariant.owners c.args.client
    c.in_ok-token.token c.in-Some.export (sym c.in_ok-token.ensures.least) at in
    rw c.in-Some.ensures.after (record {
      numbered = is-closed t c.self.invariant.numbered c.in_ok-token.token;
      owners =
          grouped_fewer (λ (x : Export). x.client) t.slots (has m) (has c.forget.new.self) c.self.invariant.owners
          c.in_ok-token.token c.in-Some.export c.args.client at mine c.forget.ensures;
    })

pub returns-clause-first : goal.returns-clause-first
returns-clause-first c =
    let first =
    first_row_of_group (λ (x : Export). x.client) c.self.inside.exports.slots (has c.self.inside.owned) c.self.invariant.owners c.args.client token_row (is_exported_by c.args.client) (λ e. refl) c.in_ok-token.token c.in-Some.export (sym c.in_ok-token.ensures.least) (sym c.in-Some.ensures.value) in
    ap (option_map (λ row. (row.token, row.object))) (sym first)
    ∙ ap (λ (l : TokenList). option_map (λ row. (row.token, row.object)) (find (is_exported_by c.args.client) l.tokens))
    c.self.view_is

pub returns-clause-closed : goal.returns-clause-closed
returns-clause-closed c =
    ap token_list c.in-Some.ensures.after
    ∙ token_closed c.self.inside.exports c.in_ok-token.token
    ∙ ap (λ (l : TokenList). without_token l c.in_ok-token.token) c.self.view_is

pub returns-clause-tokens : goal.returns-clause-tokens
returns-clause-tokens c = rw (← c.self.view_is) (tokens_are c.self.inside.exports c.self.invariant.numbered)

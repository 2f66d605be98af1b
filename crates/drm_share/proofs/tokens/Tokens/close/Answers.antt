use Rattle.std.proofs.Common.{cond, Some, None, ap, sym, ◌∙◌, find, option_map, eq-eqb}
use Rattle.std.proofs.lemmas.Bool.{ne_eqb}
use Rattle.drm_id_alloc.proofs.GroupLemmas.{grouped_fewer}
use Rattle.drm_share.specs.declared.tokens.Export.{Export}
use Rattle.drm_id_alloc.specs.Groups.{has}
use Rattle.drm_share.specs.Tokens.{TokenList, is_token_of, without_token}
use Rattle.drm_share.specs.Tables.{token_list, token_row}
use Rattle.drm_share.proofs.TokenFacts.{token_of_is, token_closed, is-closed, closes, tokens_are}
use Rattle.drm_share.proofs.tokens.Tokens.close.Goals as goal

pub returns-in_err-export-clause-object : goal.returns-in_err-export-clause-object
returns-in_err-export-clause-object c =
    c.from_residual.ensures
    ∙ ap (closes c.args.client c.args.token) c.in_err-export.ensures.value
    ∙ ap (option_map (λ row. row.object)) (sym (token_of_is c.self.inside.exports c.args.client c.args.token))
    ∙ ap (λ (l : TokenList). option_map (λ row. row.object) (find (is_token_of c.args.client c.args.token) l.tokens))
    c.self.view_is

pub returns-then-export-client-clause-object : goal.returns-then-export-client-clause-object
returns-then-export-client-clause-object c =
    let v = c.in_ok-export.field-0.now in
    ap (λ b. option_map (λ row. row.object) (cond b (Some (token_row (c.args.token, v))) None))
    (sym (ne_eqb v.client c.args.client c.if-export-client.true))
    ∙ ap (closes c.args.client c.args.token) c.in_ok-export.ensures.value
    ∙ ap (option_map (λ row. row.object)) (sym (token_of_is c.self.inside.exports c.args.client c.args.token))
    ∙ ap (λ (l : TokenList). option_map (λ row. row.object) (find (is_token_of c.args.client c.args.token) l.tokens))
    c.self.view_is

pub invariant_of-self : goal.invariant_of-self
invariant_of-self c =
    let v = c.in_ok-export.field-0.now in
    rw c.remove-export.ensures.after (record {
      numbered = is-closed c.self.inside.exports c.self.invariant.numbered c.args.token;
      owners =
          grouped_fewer (λ (x : Export). x.client) c.self.inside.exports.slots (has c.self.inside.owned)
          (has c.forget.new.self) c.self.invariant.owners c.args.token v c.args.client
          (sym c.in_ok-export.ensures.value) c.if-export-client.false c.forget.ensures;
    })

pub returns-clause-object : goal.returns-clause-object
returns-clause-object c =
    let v = c.in_ok-export.field-0.now in
    ap (λ b. option_map (λ row. row.object) (cond b (Some (token_row (c.args.token, v))) None))
    (sym (eq-eqb v.client c.args.client c.if-export-client.false))
    ∙ ap (closes c.args.client c.args.token) c.in_ok-export.ensures.value
    ∙ ap (option_map (λ row. row.object)) (sym (token_of_is c.self.inside.exports c.args.client c.args.token))
    ∙ ap (λ (l : TokenList). option_map (λ row. row.object) (find (is_token_of c.args.client c.args.token) l.tokens))
    c.self.view_is

pub returns-clause-closed : goal.returns-clause-closed
returns-clause-closed c =
    ap token_list c.remove-export.ensures.after
    ∙ token_closed c.self.inside.exports c.args.token
    ∙ ap (λ (l : TokenList). without_token l c.args.token) c.self.view_is

pub returns-in_err-export-clause-tokens : goal.returns-in_err-export-clause-tokens
returns-in_err-export-clause-tokens c =
    rw (← c.self.view_is) (tokens_are c.self.inside.exports c.self.invariant.numbered)

pub returns-then-export-client-clause-tokens : goal.returns-then-export-client-clause-tokens
returns-then-export-client-clause-tokens c =
    rw (← c.self.view_is) (tokens_are c.self.inside.exports c.self.invariant.numbered)

pub returns-clause-tokens : goal.returns-clause-tokens
returns-clause-tokens c = rw (← c.self.view_is) (tokens_are c.self.inside.exports c.self.invariant.numbered)

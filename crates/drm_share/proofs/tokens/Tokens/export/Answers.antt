use Rattle.std.proofs.Common.{refl, ap, sym, ◌∙◌, arith}
use Rattle.std.proofs.lemmas.Option.{none-some, same_Some}
use Rattle.drm_id_alloc.proofs.GroupLemmas.{grouped_more, grouped_back, grouped_same}
use Rattle.drm_share.specs.declared.tokens.Export.{Export}
use Rattle.drm_id_alloc.specs.Groups.{GroupMap, has}
use Rattle.drm_share.specs.Tokens.{TokenList, with_token, token}
use Rattle.drm_share.specs.Tables.{token_list}
use Rattle.drm_share.proofs.TokenFacts.{next_token_is, token_opened, is-opened}
use Rattle.drm_share.proofs.tokens.Tokens.export.Goals as goal

pub returns-in_default-clause-full : goal.returns-in_default-clause-full
returns-in_default-clause-full c =
    let next = next_token_is c.self.inside.exports c.self.invariant.numbered.first_is in
    rw (← c.self.view_is) ((λ _. next ∙ sym c.in_default.ensures.next), λ _. tt)

pub invariant_of-self : goal.invariant_of-self
invariant_of-self c = record {
  numbered = c.self.invariant.numbered;
  owners =
      grouped_same (λ (x : Export). x.client) c.self.inside.exports.slots (has c.self.inside.owned)
      (has c.note.new.self) c.self.invariant.owners (λ d u. ap (λ (m : GroupMap). has m d u) c.in-Err.ensures.err);
}

pub returns-in-Err-clause-full : goal.returns-in-Err-clause-full
returns-in-Err-clause-full c =
    let next = next_token_is c.self.inside.exports c.self.invariant.numbered.first_is in
    rw (← c.self.view_is)
    ((λ none. absurd none), λ none. none-some c.in-Some.token (sym none ∙ next ∙ sym c.in-Some.ensures.next))

pub invariant_of-self-in-Err-add_cyclic : goal.invariant_of-self-in-Err-add_cyclic
invariant_of-self-in-Err-add_cyclic c =
    let t = c.self.inside.exports in
    let old = has c.self.inside.owned in
    let again = has c.forget.new.self in
    rw c.in-Err-add_cyclic.ensures.err (record {
      numbered = c.self.invariant.numbered;
      owners = grouped_same (λ (x : Export). x.client) t.slots old again c.self.invariant.owners
          (grouped_back (λ (x : Export). x.client) t.slots old (has c.note.new.self) c.self.invariant.owners again c.args.client c.in-Some.token c.in-Some.ensures.fresh c.in_default-note.ensures.ok c.forget.ensures);
    })

pub returns-in-Err-add_cyclic-clause-full : goal.returns-in-Err-add_cyclic-clause-full
returns-in-Err-add_cyclic-clause-full c =
    let next = next_token_is c.self.inside.exports c.self.invariant.numbered.first_is in
    rw (← c.self.view_is)
    ((λ none. absurd none), λ none. none-some c.in-Some.token (sym none ∙ next ∙ sym c.in-Some.ensures.next))

pub invariant_of-self-in_default-add_cyclic : goal.invariant_of-self-in_default-add_cyclic
invariant_of-self-in_default-add_cyclic c =
    let t = c.self.inside.exports in
    let m = c.self.inside.owned in
    let made : Export = record { client = c.args.client; object = c.args.object } in
    let same =
    same_Some c.in_default-add_cyclic.field-0 c.in-Some.token
    (sym c.in_default-add_cyclic.ensures.given ∙ sym c.in-Some.ensures.next) in
    rw (c.in_default-add_cyclic.ensures.ok, same) (record {
      numbered =
          is-opened t c.self.invariant.numbered c.in-Some.token made c.in-Some.ensures.low c.in-Some.ensures.high;
      owners =
          grouped_more (λ (x : Export). x.client) t.slots (has m) (has c.note.new.self) c.self.invariant.owners
          c.in-Some.token made c.args.client c.in-Some.ensures.fresh refl c.in_default-note.ensures.ok;
    })

pub returns-clause-given : goal.returns-clause-given
returns-clause-given c =
    rw (← c.self.view_is)
    (next_token_is c.self.inside.exports c.self.invariant.numbered.first_is ∙ sym c.in-Some.ensures.next)

pub returns-clause-low : goal.returns-clause-low
returns-clause-low c = omega (arith, c.in-Some.ensures.low, c.self.invariant.numbered.first_is)

pub returns-clause-high : goal.returns-clause-high
returns-clause-high c = rw (← c.self.view_is) c.in-Some.ensures.high

pub returns-clause-ok : goal.returns-clause-ok
returns-clause-ok c =
    let made : Export = record { client = c.args.client; object = c.args.object } in
    let same =
    same_Some c.in_default-add_cyclic.field-0 c.in-Some.token
    (sym c.in_default-add_cyclic.ensures.given ∙ sym c.in-Some.ensures.next) in
    ap token_list (rw same at c.in_default-add_cyclic.ensures.ok)
    ∙ token_opened c.self.inside.exports c.in-Some.token made c.in-Some.ensures.fresh
    ∙ ap (λ (l : TokenList). with_token l (token c.in-Some.token c.args.client c.args.object)) c.self.view_is

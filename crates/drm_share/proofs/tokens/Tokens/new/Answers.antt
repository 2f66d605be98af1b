use Rattle.std.proofs.Common.{ap, arith}
use Rattle.drm_id_alloc.proofs.GroupLemmas.{grouped_empty}
use Rattle.drm_share.specs.declared.tokens.Export.{Export}
use Rattle.drm_id_alloc.specs.Groups.{has}
use Rattle.drm_share.proofs.TokenFacts.{no_tokens, is-empty}
use Rattle.drm_share.proofs.tokens.Tokens.new.Goals as goal

pub invariant_of-result : goal.invariant_of-result
invariant_of-result c = record {
  numbered =
      is-empty c.args.last c.new.result (ap (λ t. t.first) c.new.ensures) (ap (λ t. t.last) c.new.ensures)
      (ap (λ t. t.last_given) c.new.ensures) (ap (λ t. t.slots) c.new.ensures) c.requires (omega arith);
  owners =
      grouped_empty (λ (x : Export). x.client) c.new.result.slots (has c.new-2.result) (ap (λ t. t.slots) c.new.ensures)
      c.new-2.ensures;
}

pub returns : goal.returns
returns c =
    no_tokens c.args.last c.new.result (ap (λ t. t.last) c.new.ensures) (ap (λ t. t.last_given) c.new.ensures)
    (ap (λ t. t.slots) c.new.ensures)

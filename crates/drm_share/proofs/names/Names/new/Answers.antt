use Rattle.std.proofs.Common.{ap, arith}
use Rattle.drm_share.proofs.NameFacts.{has-empty, no_names}
use Rattle.drm_share.proofs.names.Names.new.Goals as goal

pub invariant_of-result : goal.invariant_of-result
invariant_of-result c =
    has-empty c.args.last c.new.result c.new-2.result.items (ap (λ t. t.first) c.new.ensures)
    (ap (λ t. t.last) c.new.ensures) (ap (λ t. t.last_given) c.new.ensures) (ap (λ t. t.slots) c.new.ensures)
    (ap (λ a. a.items) c.new-2.ensures) c.requires (omega arith)

pub returns : goal.returns
returns c = no_names c.args.last c.new.result (ap (λ t. t.last) c.new.ensures) (ap (λ t. t.slots) c.new.ensures)

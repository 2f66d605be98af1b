use Rattle.std.proofs.Common.{ap, ◌∙◌, arith}
use Rattle.drm_id_alloc.proofs.BothWays.{none_both}
use Rattle.drm_id_alloc.proofs.NumberTable.{no_rows}
use Rattle.drm_id_alloc.proofs.TableLemmas.{IsWithin-empty}
use Rattle.drm_leases.specs.Tokens.{token_row, tokens_in}
use Rattle.drm_leases.proofs.tokens.LeaseTokens.new.Goals as goal

pub invariant_of-result : goal.invariant_of-result
invariant_of-result c =
    let t = c.new.ensures in
    record {
      numbered = record {
        first_is = ap (λ u. u.first) t;
        within =
            rw (ap (λ u. u.first) t, ap (λ u. u.last) t, ap (λ u. u.last_given) t, ap (λ u. u.slots) t)
            (IsWithin-empty 1 c.args.last c.requires (omega arith));
      };
      ways =
          none_both c.new.result.slots c.new-2.result.items (ap (λ u. u.slots) t) (ap (λ a. a.items) c.new-2.ensures);
    }

pub returns : goal.returns
returns c =
    let t = c.new.ensures in
    λ i. record
    { last = (ap (λ u. u.last) t) i; last_given = (ap (λ u. u.last_given) t) i; rows = (ap (λ u. tokens_in u.slots) t ∙ no_rows token_row) i }

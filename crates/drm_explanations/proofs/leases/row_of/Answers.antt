use Rattle.std.proofs.Common.{cond, true, false, Some, None, sym, ap}
use Rattle.drm_explanations.specs.Rows as rows
use Rattle.drm_explanations.proofs.StepLemmas.{tells_in}
use Rattle.drm_explanations.proofs.WithinLemmas.{step_found}
use Rattle.drm_explanations.proofs.leases.row_of.Goals as goal

pub returns-in_default-clause-names : goal.returns-in_default-clause-names
returns-in_default-clause-names c =
    ap (λ b. cond b (Some (rows.names_of c.args.lease.now)) None)
    (sym (step_found c.steps.result.now c.args.ledger.now c.args.lease.now.master false c.steps.ensures c.in_default.ensures.numbers))

pub returns-clause-tells : goal.returns-clause-tells
returns-clause-tells c = record {
  lessor = c.lessor_of.ensures;
  mode_objects = c.in_ok-leased.ensures.lent;
  rising = c.in_ok-leased.ensures.rising;
  redeemed_by = c.lease_client.ensures;
  ended = c.ended_row.ensures.ended;
  leased = c.in-Some.ensures.step;
  leased_at =
      tells_in c.steps.result.now c.args.ledger.now c.in-Some.leased c.steps.ensures c.in-Some.ensures.tells;
  end_at = c.ended_row.ensures.tells;
  ended_by = c.ended_row.ensures.step;
}

pub returns-clause-names : goal.returns-clause-names
returns-clause-names c =
    ap (λ b. cond b (Some (rows.names_of c.args.lease.now)) None)
    (sym (step_found c.steps.result.now c.args.ledger.now c.args.lease.now.master true c.steps.ensures c.in-Some.ensures.numbers))

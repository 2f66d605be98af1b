use Rattle.std.proofs.Common.{length, sym, ◌∙◌, subst}
use Rattle.std.specs.Prelude.{IfSome}
use Rattle.drm_explanations.proofs.WithinLemmas.{IsStep, end_within, step_reported}
use Rattle.drm_explanations.proofs.leases.ended_row.Goals as goal

pub returns-clause-step : goal.returns-clause-step
returns-clause-step c =
    let history = c.args.ledger.now in
    let within : IsStep (length history) c.in_ok-step.step =
    subst (λ o. IfSome o (IsStep (length history))) (sym c.in_ok-step.ensures.step)
    (end_within history c.args.master) in
    step_reported c.steps.result.now history c.in_ok-step.step c.at.result c.steps.ensures within c.at.ensures.step
    c.at.ensures.numbers
    ∙ c.in_ok-step.ensures.step

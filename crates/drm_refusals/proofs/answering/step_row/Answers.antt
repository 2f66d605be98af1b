use Rattle.std.proofs.Common.{◌≡◌, ◌∙◌, ap}
use Rattle.std.specs.Option.{option_map}
use Rattle.drm_refusals.specs.Reports.{last_number}
use Rattle.drm_refusals.proofs.ReportLemmas.{last_reported}
use Rattle.drm_refusals.proofs.answering.step_row.Goals as goal
use Rattle.drm_refusals.proofs.answering.step_row.Goals.{in-Denied+in_ok-row, in_default}

pub returns-clause-step : goal.returns-clause-step
returns-clause-step c =
    let its : option_map (λ told. told.step) c.at.result ≡ last_number c.args.context.ledger.now =
    last_reported c.steps-steps.result.now c.args.context.ledger.now c.at.result c.steps-steps.ensures
    c.at.ensures.step c.at.ensures.numbers in
    elim c.match-step.branch [
      | in-Denied+in_ok-row w ↦ ap (λ row. option_map (λ told. told.step) row.asked) w.row-is ∙ its
      | in_default w ↦ ap (λ row. option_map (λ told. told.step) row.asked) w.row-is ∙ its
    ]

use Rattle.std.proofs.Common.{ℕ, List, Some, sym, ◌∙◌, ap}
use Rattle.std.specs.Option.{option_map}
use Rattle.drm_history.specs.History.{AnsweredEvent}
use Rattle.drm_explanations.specs.Steps.{client_of, word_of}
use Rattle.drm_explanations.proofs.StepLemmas.{step_of_number}
use Rattle.drm_explanations.proofs.names.at.Goals as goal

pub returns-clause-tells : goal.returns-clause-tells
returns-clause-tells c =
    let step = c.in_ok-step.step.now in
    ap (option_map {U = ℕ × List ℕ} (λ (s : AnsweredEvent). (client_of c.args.number s.event, word_of s.event)))
    (step_of_number c.args.steps.now c.args.number step c.in_ok-step.ensures.numbers c.in_ok-step.ensures.step)
    ∙ (λ i. Some (sym c.asked-client.ensures.client i, sym c.asked-client.ensures.word i))

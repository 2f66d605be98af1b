use Rattle.std.proofs.Common.{List, subst}
use Rattle.std.specs.Prelude.{IfSome}
use Rattle.drm_history.specs.History.{AnsweredEvent}
use Rattle.drm_explanations.specs.Steps.{TellsStep}
use Rattle.drm_explanations.proofs.WithinLemmas.{since_reported}
use Rattle.drm_explanations.proofs.explaining.owner_since.Goals as goal

pub returns : goal.returns
returns c = record {
  step =
      since_reported c.steps.result.now c.args.ledger.now c.owner_since.result c.at.result c.steps.ensures
      c.owner_since.ensures c.at.ensures.step c.at.ensures.numbers;
  at = subst (λ (h : List AnsweredEvent). IfSome c.at.result (TellsStep h)) c.steps.ensures c.at.ensures.tells;
}

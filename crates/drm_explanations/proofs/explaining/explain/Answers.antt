use Rattle.drm_explanations.proofs.WithinLemmas.{steps_of}
use Rattle.drm_explanations.proofs.explaining.explain.Goals as goal

pub returns-clause-steps : goal.returns-clause-steps
returns-clause-steps c = steps_of c.steps.result.now c.args.ledger.now c.steps.ensures

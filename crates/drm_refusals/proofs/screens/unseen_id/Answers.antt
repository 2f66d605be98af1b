use Rattle.std.proofs.lemmas.Result.{IfOk-weaker}
use Rattle.drm_refusals.proofs.LoopLemmas.{wider}
use Rattle.drm_refusals.proofs.screens.unseen_id.Goals as goal

pub returns-else-is_none-clause-has : goal.returns-else-is_none-clause-has
returns-else-is_none-clause-has c =
    IfOk-weaker c.unseen.result _ _ (λ more has. λ fails. wider more.items (has fails)) c.unseen.ensures.has

use Rattle.std.proofs.Common.{refl}
use Rattle.drm_explanations.proofs.WithinLemmas.{steps_of}
use Rattle.drm_refusals.proofs.room.full_journal.Goals as goal

pub only-requires : goal.only-requires
only-requires c = (steps_of c.steps-steps.result.now c.args.context.ledger.now c.steps-steps.ensures, refl)

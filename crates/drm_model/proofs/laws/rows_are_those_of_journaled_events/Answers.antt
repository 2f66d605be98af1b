use Rattle.drm_model.proofs.Runs.{answers-run}
use Rattle.drm_model.proofs.laws.rows_are_those_of_journaled_events.Goals as goal

pub returns : goal.returns
returns c = λ w events results v answers. answers-run w events results v answers

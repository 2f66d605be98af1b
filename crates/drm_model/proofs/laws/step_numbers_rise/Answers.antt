use Rattle.drm_model.proofs.StepNumbers.{step_numbers_rise}
use Rattle.drm_model.proofs.laws.step_numbers_rise.Goals as goal

pub returns : goal.returns
returns c = step_numbers_rise

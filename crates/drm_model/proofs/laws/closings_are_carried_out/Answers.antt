use Rattle.drm_model.proofs.Closings.{closing_is_carried_out}
use Rattle.drm_model.proofs.laws.closings_are_carried_out.Goals as goal

pub returns : goal.returns
returns c = λ w client result v open_client step. closing_is_carried_out w client result v open_client step

use Rattle.drm_model.proofs.Endings.{closing_forgets, closing_ends}
use Rattle.drm_model.proofs.laws.closings_leave_no_right.Goals as goal

pub returns-clause-forgotten : goal.returns-clause-forgotten
returns-clause-forgotten c = closing_forgets

pub returns-clause-ended : goal.returns-clause-ended
returns-clause-ended c = closing_ends

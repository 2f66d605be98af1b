use Rattle.drm_history.proofs.ClosedForGood.{closings_are_for_good}
use Rattle.drm_history.proofs.authority.closings_are_for_good.Goals as goal

pub returns : goal.returns
returns c = closings_are_for_good

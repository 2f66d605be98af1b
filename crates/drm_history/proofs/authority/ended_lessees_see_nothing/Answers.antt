use Rattle.drm_history.proofs.Follows.{ended_lessees_see_nothing}
use Rattle.drm_history.proofs.authority.ended_lessees_see_nothing.Goals as goal

pub returns : goal.returns
returns c = ended_lessees_see_nothing

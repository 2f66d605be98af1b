use Rattle.drm_history.proofs.Follows.{grants_follow}
use Rattle.drm_history.proofs.authority.grants_follow_from_history.Goals as goal

pub returns : goal.returns
returns c = grants_follow

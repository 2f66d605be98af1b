use Rattle.drm_history.proofs.Follows.{magics_follow, authentication_follows}
use Rattle.drm_history.proofs.authority.authentication_follows_from_history.Goals as goal

pub returns-clause-magics : goal.returns-clause-magics
returns-clause-magics c = magics_follow

pub returns-clause-clients : goal.returns-clause-clients
returns-clause-clients c = authentication_follows

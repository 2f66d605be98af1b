use Rattle.drm_history.proofs.Follows.{owner_follows, clients_follow}
use Rattle.drm_history.proofs.authority.masters_follow_from_history.Goals as goal

pub returns-clause-owner : goal.returns-clause-owner
returns-clause-owner c = owner_follows

pub returns-clause-clients : goal.returns-clause-clients
returns-clause-clients c = clients_follow

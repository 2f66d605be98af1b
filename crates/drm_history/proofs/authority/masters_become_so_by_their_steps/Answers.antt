use Rattle.drm_history.proofs.Mastership.{masters_become, owner_is_left}
use Rattle.drm_history.proofs.authority.masters_become_so_by_their_steps.Goals as goal

pub returns-clause-clients : goal.returns-clause-clients
returns-clause-clients c = masters_become

pub returns-clause-owner : goal.returns-clause-owner
returns-clause-owner c = owner_is_left

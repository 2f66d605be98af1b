use Rattle.drm_history.proofs.Follows.{lease_tokens_follow, lessors_follow, owners_follow, lessees_follow}
use Rattle.drm_history.proofs.authority.lessees_follow_from_history.Goals as goal

pub returns-clause-tokens : goal.returns-clause-tokens
returns-clause-tokens c = lease_tokens_follow

pub returns-clause-lessors : goal.returns-clause-lessors
returns-clause-lessors c = lessors_follow

pub returns-clause-owners : goal.returns-clause-owners
returns-clause-owners c = owners_follow

pub returns-clause-ids : goal.returns-clause-ids
returns-clause-ids c = lessees_follow

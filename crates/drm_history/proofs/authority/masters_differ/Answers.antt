use Rattle.drm_history.proofs.Follows.{masters_differ}
use Rattle.drm_history.proofs.authority.masters_differ.Goals as goal

pub returns : goal.returns
returns c = masters_differ

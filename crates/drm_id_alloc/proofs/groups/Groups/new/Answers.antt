use Rattle.drm_id_alloc.proofs.GroupLemmas.{groups_empty}
use Rattle.drm_id_alloc.specs.Groups.{has_number}
use Rattle.drm_id_alloc.proofs.groups.Groups.new.Goals as goal

pub returns : goal.returns
returns c = λ d u. rw c.new.ensures (groups_empty has_number d u)

use Rattle.drm_masters.proofs.IdLemmas.{none_at}
use Rattle.drm_masters.proofs.ids.OwnerIds.new.Goals as goal

pub returns : goal.returns
returns c = λ o i. rw c.new.ensures (none_at o i)

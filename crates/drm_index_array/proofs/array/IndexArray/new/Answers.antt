use Rattle.drm_index_array.proofs.ArrayLemmas.{rooted_none}
use Rattle.drm_index_array.proofs.MarkedLemmas.{array_of-empty}
use Rattle.drm_index_array.proofs.array.IndexArray.new.Goals as goal

pub invariant_of-result : goal.invariant_of-result
invariant_of-result g c = record { rooted = rooted_none _ }

pub returns : goal.returns
returns g c = array_of-empty

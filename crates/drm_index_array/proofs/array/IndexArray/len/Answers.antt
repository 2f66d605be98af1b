use Rattle.drm_index_array.proofs.ArrayLemmas.{item_count, item_bound}
use Rattle.drm_index_array.proofs.array.IndexArray.len.Goals as goal

pub returns-clause-len : goal.returns-clause-len
returns-clause-len g c = item_count _ _ c.self.view_is _ c.self.invariant.rooted

pub returns-clause-bound : goal.returns-clause-bound
returns-clause-bound g c = item_bound _ _ c.self.view_is _ c.self.invariant.rooted

use Rattle.std.proofs.Common.{ap, sym, not, false}
use Rattle.drm_index_array.proofs.NodeLemmas.{any_alike}
use Rattle.drm_index_array.proofs.tree.LowestLevel.fill.Goals as goal

pub returns-in-Vacant-clause-full : goal.returns-in-Vacant-clause-full
returns-in-Vacant-clause-full g c = sym (ap not (any_alike 0 false))

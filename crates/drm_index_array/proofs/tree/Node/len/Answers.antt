use Rattle.std.proofs.Common.{◌∙◌, ap}
use Rattle.std.specs.FinMap as map
use Rattle.drm_index_array.proofs.RootLemmas.{view_past}
use Rattle.drm_index_array.proofs.tree.Node.len.Goals as goal

pub returns-clause-len : goal.returns-clause-len
returns-clause-len g c = c.self.invariant.counted ∙ ap (λ t. map.len t.items) c.self.view_is

pub returns-clause-past : goal.returns-clause-past
returns-clause-past g c = view_past _ _ _ c.self.view_is

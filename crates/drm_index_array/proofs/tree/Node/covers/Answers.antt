use Rattle.std.proofs.Common.{ap}
use Rattle.drm_index_array.proofs.SlotLemmas.{covered}
use Rattle.drm_index_array.proofs.RootLemmas.{view_past, view_few}
use Rattle.drm_index_array.proofs.tree.Node.covers.Goals as goal

pub returns-clause-covers : goal.returns-clause-covers
returns-clause-covers g c =
    let same = ap (λ t. t.height) c.self.view_is in
    rw (← same) (covered c.self.inside.height c.args.index)

pub returns-clause-past : goal.returns-clause-past
returns-clause-past g c = view_past _ _ _ c.self.view_is

pub returns-clause-few : goal.returns-clause-few
returns-clause-few g c = view_few _ _ _ c.self.view_is c.self.invariant.sound.low

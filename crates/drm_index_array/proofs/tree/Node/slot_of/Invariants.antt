use Rattle.std.proofs.Common.{◌≡◌, ◌+◌, ◌*◌}
use Rattle.std.specs.FinMap as map
use Rattle.drm_index_array.specs.Position.{passing}
use Rattle.drm_index_array.specs.Tree.{width}
use Rattle.drm_index_array.proofs.tree.Node.slot_of.Given as goal

abbrev pub invariant-loop-at : goal.invariant-loop-at
invariant-loop-at g l =
    passing (map.contains_key l.fn.self.items) 0 (l.at * width l.fn.self.height) + l.left ≡ l.fn.position

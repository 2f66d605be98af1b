use Rattle.std.proofs.Common.{◌≡◌, ◌%◌}
use Rattle.std.specs.FinMap as map
use Rattle.drm_index_array.specs.Tree.{span}
use Rattle.drm_index_array.proofs.tree.Node.find.Given as goal

abbrev pub invariant-loop-entry : goal.invariant-loop-entry
invariant-loop-entry g l =
    (l.level ≡ l.node.height) × (map.get l.node.items (l.fn.index % span l.level) ≡ map.get l.fn.self.items l.fn.index)

abbrev pub decreases-loop-entry : goal.decreases-loop-entry
decreases-loop-entry g l = l.level

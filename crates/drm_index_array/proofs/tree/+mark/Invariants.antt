use Rattle.std.proofs.Common.{◌+◌, ◌*◌}
use Rattle.drm_index_array.proofs.tree.+mark.Given as goal

abbrev pub decreases-Node::write_mark : goal.decreases-Node::write_mark
decreases-Node::write_mark g l = l.self.now.height * 2 + 1

abbrev pub decreases-marked_slot : goal.decreases-marked_slot
decreases-marked_slot g l = l.height * 2

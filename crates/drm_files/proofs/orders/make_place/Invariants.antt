use Rattle.std.proofs.Common.{◌+◌, ◌-◌}
use Rattle.std.specs.Vec.{vec_len}
use Rattle.drm_files.specs.ExportOrders.{AreKept}
use Rattle.drm_files.proofs.orders.make_place.Given as goal

abbrev pub invariant-loop-links : goal.invariant-loop-links
invariant-loop-links l = AreKept l.initial.links.items l.links.items

abbrev pub decreases-loop-links : goal.decreases-loop-links
decreases-loop-links l = l.handle + 1 - vec_len l.links

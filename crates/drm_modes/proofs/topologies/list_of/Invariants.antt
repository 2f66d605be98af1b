use Rattle.std.proofs.Common.{◌≡◌, take}
use Rattle.arrayvec.specs.ArrayVec.{array_vec_len}
use Rattle.drm_modes.proofs.topologies.list_of.Given as goal

abbrev pub invariant-loop-item : goal.invariant-loop-item
invariant-loop-item g l = (l.list.items ≡ take l.item-index l.items) × (array_vec_len l.list ≡ l.item-index)

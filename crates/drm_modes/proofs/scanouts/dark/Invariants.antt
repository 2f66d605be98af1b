use Rattle.std.proofs.Common.{◌≡◌, replicate}
use Rattle.arrayvec.specs.ArrayVec.{array_vec_len}
use Rattle.drm_modes.proofs.scanouts.dark.Given as goal

abbrev pub invariant-loop-scanout : goal.invariant-loop-scanout
invariant-loop-scanout l = (l.scanouts.items ≡ replicate l._scanout 0) × (array_vec_len l.scanouts ≡ l._scanout)

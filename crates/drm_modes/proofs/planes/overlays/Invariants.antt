use Rattle.std.proofs.Common.{◌≡◌, replicate}
use Rattle.arrayvec.specs.ArrayVec.{array_vec_len}
use Rattle.drm_modes.specs.declared.kinds.PlaneKind.TheVariants.{Overlay}
use Rattle.drm_modes.proofs.planes.overlays.Given as goal

abbrev pub invariant-loop-plane : goal.invariant-loop-plane
invariant-loop-plane l = (l.kinds.items ≡ replicate l._plane Overlay) × (array_vec_len l.kinds ≡ l._plane)

use Rattle.std.proofs.Common.{◌≡◌, ◌+◌, drop, slice_get}
use Rattle.drm_modes.specs.Modes.{lit_rows}
use Rattle.drm_modes.proofs.scanouts.nth_lit.Given as goal

-- the one that is sought is among the rest
abbrev pub invariant-loop-scanout : goal.invariant-loop-scanout
invariant-loop-scanout l =
    record {
      id : l.engine ≡ l.scanout-index + 1;
      rest : slice_get (lit_rows l.engine (drop l.scanout-index l.scanouts)) l.left ≡ slice_get (lit_rows 1 l.scanouts) l.position;
    }

use Rattle.std.proofs.Common.{◌≡◌, ◌++◌, take, drop, map}
use Rattle.drm_modes.specs.Modes.{dark_of}
use Rattle.drm_modes.proofs.scanouts.darken.Given as goal

-- those before the index are done
abbrev pub invariant-loop-scanout : goal.invariant-loop-scanout
invariant-loop-scanout l =
    l.scanouts ≡ map (dark_of l.framebuffer) (take l.scanout-index l.fn.scanouts) ++ drop l.scanout-index l.fn.scanouts

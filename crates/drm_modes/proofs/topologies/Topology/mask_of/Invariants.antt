use Rattle.std.proofs.Common.{◌≡◌, ◌+◌, ◌*◌, ◌^◌, ◌<◌, drop}
use Rattle.drm_modes.specs.Topology.{mask_over}
use Rattle.drm_modes.proofs.topologies.Topology.mask_of.Given as goal

-- the bits so far, and those to come
abbrev pub invariant-loop-crtc : goal.invariant-loop-crtc
invariant-loop-crtc l =
    record {
      bit : l.bit ≡ 2 ^ l.crtc-index;
      below : l.mask < l.bit;
      told : l.mask + l.bit * mask_over l.self l.id (drop l.crtc-index l.crtcs) ≡ mask_over l.self l.id l.crtcs;
    }

use Rattle.std.proofs.Common.{◌≡◌, ◌+◌, ◌*◌, ◌^◌, length, drop, sym, ap, ◌∙◌, arith}
use Rattle.drm_modes.specs.Topology.{drives, bits_of}
use Rattle.drm_modes.proofs.Fixed.{few_seen}
use Rattle.drm_modes.proofs.Masks.{low_bit, doubled, bit_set, bit_clear}
use Rattle.drm_modes.proofs.topologies.Topology.mask_of.Goals as goal
use Rattle.drm_modes.proofs.topologies.Topology.mask_of.Goals.{then-drives, else-drives}

pub overflow_add-mask : goal.overflow_add-mask
overflow_add-mask c =
    let few = few_seen c.args.self.now c.args.crtcs.now c.laws.ensures c.requires in
    let low = low_bit c.loop-crtc.crtc-index (length c.args.crtcs.now) few c.loop-crtc-test.true in
    omega (arith, low, c.loop-crtc.invariant.bit, c.loop-crtc.invariant.below)

pub overflow_mul-bit : goal.overflow_mul-bit
overflow_mul-bit c =
    let few = few_seen c.args.self.now c.args.crtcs.now c.laws.ensures c.requires in
    let low = low_bit c.loop-crtc.crtc-index (length c.args.crtcs.now) few c.loop-crtc-test.true in
    omega (arith, low, c.loop-crtc.invariant.bit)

pub loop-crtc-preserved : goal.loop-crtc-preserved
loop-crtc-preserved c =
    let l = c.loop-crtc in
    let test = drives c.args.self.now c.args.id in
    let items = c.args.crtcs.now in
    let bit : l.bit * 2 ≡ 2 ^ (l.crtc-index + 1) = ap (λ n. n * 2) l.invariant.bit ∙ doubled l.crtc-index in
    elim c.if-drives.branch [
      | then-drives w ↦ record {
        bit = bit;
        below = omega (arith, w.mask-is, l.invariant.below);
        told = ap (λ n. n + l.bit * 2 * bits_of test (drop (l.crtc-index + 1) items)) w.mask-is
            ∙ bit_set test items l.crtc-index l.bit l.mask (bits_of test items) c.loop-crtc-test.true l.invariant.told
            (sym c.drives.ensures ∙ w.if-drives.true);
      }
      | else-drives w ↦ record {
        bit = bit;
        below = omega (arith, w.mask-is, l.invariant.below);
        told = ap (λ n. n + l.bit * 2 * bits_of test (drop (l.crtc-index + 1) items)) w.mask-is
            ∙ bit_clear test items l.crtc-index l.bit l.mask (bits_of test items) c.loop-crtc-test.true l.invariant.told
            (sym c.drives.ensures ∙ w.if-drives.false);
      }
    ]

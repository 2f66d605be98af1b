use Rattle.std.proofs.Common.{◌==◌, ap, ◌∙◌}
use Rattle.std.specs.Int.{bit_at}
use Rattle.drm_modes.specs.Topology.{drives, mask_over}
use Rattle.drm_modes.proofs.Masks.{bit_of, no_mask}
use Rattle.drm_modes.proofs.topologies.Topology.mask.Goals as goal

pub returns-clause-bits : goal.returns-clause-bits
returns-clause-bits c =
    λ i. ap (λ n. bit_at n i == 1) (c.mask_of.ensures ∙ ap (mask_over c.args.self.now c.args.id) c.ids.ensures.ids)
    ∙ bit_of (drives c.args.self.now c.args.id) c.args.visible.now i

pub returns-clause-other : goal.returns-clause-other
returns-clause-other c =
    λ plane encoder. c.mask_of.ensures ∙ no_mask c.args.self.now c.args.id plane encoder c.ids.result.now

use Rattle.std.proofs.Common.{sym, ◌∙◌}
use Rattle.drm_index_array.proofs.Chains.{top_none, top_some}
use Rattle.drm_rights.specs.Leases.{lessor_noted}
use Rattle.drm_rights.proofs.LeaseLemmas.{noted_falls}
use Rattle.drm_rights.proofs.notes.top_of.Goals as goal

pub lessors-preserved : goal.lessors-preserved
lessors-preserved c =
    top_some (lessor_noted c.args.leases.now) (noted_falls c.args.leases.now) c.lessors.top c.in-Some.lessor
    (sym c.in-Some.ensures.lessor)
    ∙ c.lessors.invariant

pub returns : goal.returns
returns c =
    top_none (lessor_noted c.args.leases.now) c.lessors.top (sym c.lessor_of.ensures.lessor ∙ c.in_default.is)
    ∙ c.lessors.invariant

use Rattle.std.proofs.Common.{◌∙◌, ap}
use Rattle.drm_index_array.specs.Chains.{top_of}
use Rattle.drm_rights.specs.Leases.{leases_in, lessor_noted}
use Rattle.drm_rights.proofs.LeaseLemmas.{lessors_told}
use Rattle.std.proofs.Common.{subst, sym}
use Rattle.drm_rights.specs.Leases.{LeasesRise}
use Rattle.drm_trails.specs.Steps.{history_of}
use Rattle.drm_rights.proofs.LeaseLemmas.{leases_rise}
use Rattle.drm_rights.proofs.ledger.Ledger.owner_of.Goals as goal

pub returns : goal.returns
returns c =
    c.top_of.ensures
    ∙ ap (λ notes. top_of (lessor_noted notes) c.args.master)
    (c.deref.ensures.value ∙ c.self.invariant.lent ∙ ap leases_in c.self.view_is)
    ∙ ap (λ above. top_of above c.args.master) (lessors_told c.args.self.now)

pub top_of-requires : goal.top_of-requires
top_of-requires c =
    subst LeasesRise (sym (c.deref.ensures.value ∙ c.self.invariant.lent))
    (leases_rise (history_of c.self.inside.trail))

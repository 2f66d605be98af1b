use Rattle.std.proofs.Common.{◌∙◌, ap}
use Rattle.drm_rights.specs.Leases.{leases_in, lease_at}
use Rattle.std.proofs.Common.{subst, sym}
use Rattle.drm_rights.specs.Leases.{LeasesRise}
use Rattle.drm_trails.specs.Steps.{history_of}
use Rattle.drm_rights.proofs.LeaseLemmas.{leases_rise}
use Rattle.drm_rights.proofs.ledger.Ledger.lease_of.Goals as goal

pub returns : goal.returns
returns c =
    c.lease_at.ensures
    ∙ ap (λ notes. lease_at notes c.args.master)
    (c.deref.ensures.value ∙ c.self.invariant.lent ∙ ap leases_in c.self.view_is)

pub lease_at-requires : goal.lease_at-requires
lease_at-requires c =
    subst LeasesRise (sym (c.deref.ensures.value ∙ c.self.invariant.lent))
    (leases_rise (history_of c.self.inside.trail))

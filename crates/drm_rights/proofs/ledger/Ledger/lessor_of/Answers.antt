use Rattle.std.proofs.Common.{◌∙◌, ap}
use Rattle.drm_rights.specs.Leases.{leases_in, lessor_noted}
use Rattle.drm_rights.proofs.LeaseLemmas.{lessor_told}
use Rattle.std.proofs.Common.{subst, sym}
use Rattle.drm_rights.specs.Leases.{LeasesRise}
use Rattle.drm_trails.specs.Steps.{history_of}
use Rattle.drm_rights.proofs.LeaseLemmas.{leases_rise}
use Rattle.drm_rights.proofs.ledger.Ledger.lessor_of.Goals as goal

pub returns : goal.returns
returns c =
    c.lessor_of.ensures.lessor
    ∙ ap (λ notes. lessor_noted notes c.args.master)
    (c.deref.ensures.value ∙ c.self.invariant.lent ∙ ap leases_in c.self.view_is)
    ∙ lessor_told c.args.self.now c.args.master

pub lessor_of-requires : goal.lessor_of-requires
lessor_of-requires c =
    subst LeasesRise (sym (c.deref.ensures.value ∙ c.self.invariant.lent))
    (leases_rise (history_of c.self.inside.trail))

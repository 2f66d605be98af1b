use Rattle.std.proofs.Common.{◌∙◌, ap}
use Rattle.drm_rights.specs.Leases.{leases_in}
use Rattle.drm_rights.proofs.ledger.Ledger.leases.Goals as goal

pub returns : goal.returns
returns c = c.deref.ensures.value ∙ c.self.invariant.lent ∙ ap leases_in c.self.view_is

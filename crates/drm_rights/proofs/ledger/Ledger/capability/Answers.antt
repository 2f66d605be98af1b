use Rattle.std.proofs.Common.{◌∙◌, ap}
use Rattle.drm_rights.specs.Ledgers.{capability_of, capabilities_in}
use Rattle.drm_rights.proofs.ledger.Ledger.capability.Goals as goal

pub returns-clause-note : goal.returns-clause-note
returns-clause-note c =
    c.last_capability.ensures
    ∙ ap (λ notes. capability_of notes c.args.client)
    (c.deref.ensures.value ∙ c.self.invariant.capable ∙ ap capabilities_in c.self.view_is)

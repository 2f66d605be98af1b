use Rattle.std.proofs.Common.{◌∙◌, ap}
use Rattle.drm_rights.specs.Ledgers.{authentication_of, authentications_in}
use Rattle.drm_rights.proofs.ledger.Ledger.authentication.Goals as goal

pub returns : goal.returns
returns c =
    c.first_authentication.ensures
    ∙ ap (λ notes. authentication_of notes c.args.client)
    (c.deref.ensures.value ∙ c.self.invariant.authenticated ∙ ap authentications_in c.self.view_is)

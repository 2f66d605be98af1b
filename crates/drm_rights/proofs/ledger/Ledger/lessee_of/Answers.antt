use Rattle.std.proofs.Common.{sym, ◌∙◌, ap}
use Rattle.drm_rights.specs.Leases.{leases_in, lease_of_token, master_of_lease}
use Rattle.drm_rights.proofs.LeaseLemmas.{token_noted}
use Rattle.drm_rights.proofs.ledger.Ledger.lessee_of.Goals as goal

pub returns-in-Some : goal.returns-in-Some
returns-in-Some c =
    ap master_of_lease
    (sym c.in-Some.is ∙ c.lease_of_token.ensures ∙ ap (λ notes. lease_of_token notes c.args.token) (c.deref.ensures.value ∙ c.self.invariant.lent ∙ ap leases_in c.self.view_is))
    ∙ token_noted c.args.self.now c.args.token

pub returns-in-None : goal.returns-in-None
returns-in-None c =
    ap master_of_lease
    (sym c.in-None.is ∙ c.lease_of_token.ensures ∙ ap (λ notes. lease_of_token notes c.args.token) (c.deref.ensures.value ∙ c.self.invariant.lent ∙ ap leases_in c.self.view_is))
    ∙ token_noted c.args.self.now c.args.token

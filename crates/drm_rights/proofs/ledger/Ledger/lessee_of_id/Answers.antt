use Rattle.std.proofs.Common.{sym, ◌∙◌, ap}
use Rattle.drm_rights.specs.Leases.{leases_in, lease_of_id, master_of_lease}
use Rattle.drm_rights.proofs.LeaseLemmas.{id_noted}
use Rattle.drm_rights.proofs.ledger.Ledger.lessee_of_id.Goals as goal

pub returns-in-Some : goal.returns-in-Some
returns-in-Some c =
    ap master_of_lease
    (sym c.in-Some.is ∙ c.lease_of_id.ensures ∙ ap (λ notes. lease_of_id notes c.args.owner c.args.id) (c.deref.ensures.value ∙ c.self.invariant.lent ∙ ap leases_in c.self.view_is))
    ∙ id_noted c.args.self.now c.args.owner c.args.id

pub returns-in-None : goal.returns-in-None
returns-in-None c =
    ap master_of_lease
    (sym c.in-None.is ∙ c.lease_of_id.ensures ∙ ap (λ notes. lease_of_id notes c.args.owner c.args.id) (c.deref.ensures.value ∙ c.self.invariant.lent ∙ ap leases_in c.self.view_is))
    ∙ id_noted c.args.self.now c.args.owner c.args.id

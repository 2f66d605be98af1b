use Rattle.std.proofs.Common.{find, sym, ◌∙◌, ap}
use Rattle.drm_rights.specs.Ledgers.{is_redemption, standings_in}
use Rattle.drm_rights.proofs.LeaseClientLemmas.{client_of, lease_client_told}
use Rattle.drm_rights.proofs.ledger.Ledger.lease_client.Goals as goal

pub returns-in-Some : goal.returns-in-Some
returns-in-Some c =
    let standings = c.deref.ensures.value ∙ c.self.invariant.stand ∙ ap standings_in c.self.view_is in
    ap client_of (sym c.in-Some.is ∙ c.first_redemption.ensures ∙ ap (find (is_redemption c.args.lessee)) standings)
    ∙ lease_client_told c.args.self.now c.args.lessee

pub returns-in-None : goal.returns-in-None
returns-in-None c =
    let standings = c.deref.ensures.value ∙ c.self.invariant.stand ∙ ap standings_in c.self.view_is in
    ap client_of (sym c.in-None.is ∙ c.first_redemption.ensures ∙ ap (find (is_redemption c.args.lessee)) standings)
    ∙ lease_client_told c.args.self.now c.args.lessee

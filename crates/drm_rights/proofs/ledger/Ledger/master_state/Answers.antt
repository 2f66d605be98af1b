use Rattle.std.proofs.Common.{◌∙◌, ap}
use Rattle.drm_rights.specs.Ledgers.{master_state_of, standings_in}
use Rattle.drm_rights.proofs.ledger.Ledger.master_state.Goals as goal

pub returns-clause-note : goal.returns-clause-note
returns-clause-note c =
    c.last_master_state.ensures
    ∙ ap (λ notes. master_state_of notes c.args.client)
    (c.deref.ensures.value ∙ c.self.invariant.stand ∙ ap standings_in c.self.view_is)

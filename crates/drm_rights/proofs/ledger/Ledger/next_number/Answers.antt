use Rattle.std.proofs.Common.{◌+◌, sym, ◌∙◌, ap}
use Rattle.drm_history.specs.History as past
use Rattle.drm_trails.proofs.HistoryLemmas.{length-history_of}
use Rattle.drm_rights.proofs.ledger.Ledger.next_number.Goals as goal

pub returns : goal.returns
returns c = ap (λ k. k + 1) (sym (length-history_of c.steps.result.now)) ∙ ap past.next_number c.steps.ensures

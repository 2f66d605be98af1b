use Rattle.std.proofs.Common.{length, sym, subst}
use Rattle.std.specs.Prelude.{IfSome}
use Rattle.drm_rights.specs.declared.notes.MasterState.{MasterState}
use Rattle.drm_explanations.proofs.WithinLemmas.{IsStep, not_missing, state_within}
use Rattle.drm_explanations.proofs.reasons.standing_row.Goals as goal

pub returns-in_err-at-clause-noted : goal.returns-in_err-at-clause-noted
returns-in_err-at-clause-noted c =
    let h = c.args.ledger.now in
    let within : IsStep (length h) c.in_ok-standing.standing.step =
    subst (λ o. IfSome o (λ (s : MasterState). IsStep (length h) s.step)) (sym c.in_ok-standing.ensures.note)
    (state_within h c.args.client) in
    absurd
    (not_missing c.steps.result.now h c.in_ok-standing.standing.step c.steps.ensures within c.in_err-at.ensures.numbers)

use Rattle.std.proofs.Common.{length, sym, subst}
use Rattle.std.specs.Prelude.{IfSome}
use Rattle.drm_rights.specs.declared.notes.Capability.{Capability}
use Rattle.drm_explanations.proofs.WithinLemmas.{IsStep, capability_within, not_missing}
use Rattle.drm_explanations.proofs.reasons.universal_row.Goals as goal

pub returns-in_err-at-clause-noted : goal.returns-in_err-at-clause-noted
returns-in_err-at-clause-noted c =
    let h = c.args.ledger.now in
    let within : IsStep (length h) c.in_ok-capability.capability.step =
    subst (λ o. IfSome o (λ (k : Capability). IsStep (length h) k.step)) (sym c.in_ok-capability.ensures.note)
    (capability_within h c.args.client) in
    absurd
    (not_missing c.steps.result.now h c.in_ok-capability.capability.step c.steps.ensures within c.in_err-at.ensures.numbers)

use Rattle.std.proofs.Common.{◌≡◌, false, ◌||◌, length, sym, ap, ◌∙◌, subst}
use Rattle.std.specs.Prelude.{IfSome}
use Rattle.std.specs.Option.{is_some}
use Rattle.drm_history.specs.Magics.{is_named_in, is_root_in}
use Rattle.drm_history.specs.MasterState.{is_master_in}
use Rattle.drm_rights.specs.declared.notes.Authentication.{Authentication}
use Rattle.drm_rights.specs.declared.notes.MasterState.{MasterState}
use Rattle.drm_explanations.proofs.WithinLemmas.{IsStep, authentication_within, named_is_found, not_missing, root_within, state_within}
use Rattle.drm_explanations.proofs.reasons.authenticated.Goals as goal

pub returns-in_err-at-clause-known : goal.returns-in_err-at-clause-known
returns-in_err-at-clause-known c =
    let h = c.args.ledger.now in
    absurd
    (not_missing c.steps-steps.result.now h c.args.client c.steps-steps.ensures (root_within h c.args.client (sym c.is_root.ensures ∙ c.if-is_root.true)) c.in_err-at.ensures.numbers)

pub returns-in_err-at-2-clause-known : goal.returns-in_err-at-2-clause-known
returns-in_err-at-2-clause-known c =
    let h = c.args.ledger.now in
    let within : IsStep (length h) c.in_ok-state.state.step =
    subst (λ o. IfSome o (λ (s : MasterState). IsStep (length h) s.step)) (sym c.in_ok-state.ensures.note)
    (state_within h c.args.client) in
    absurd
    (not_missing c.steps-steps.result.now h c.in_ok-state.state.step c.steps-steps.ensures within c.in_err-at-2.ensures.numbers)

pub returns-in_err-authentication-clause-known : goal.returns-in_err-authentication-clause-known
returns-in_err-authentication-clause-known c =
    let h = c.args.ledger.now in
    let root : is_root_in h c.args.client ≡ false = sym c.is_root.ensures ∙ c.if-is_root.false in
    let master : is_master_in h c.args.client ≡ false = sym c.is_master.ensures ∙ c.if-is_master.false in
    let named : is_named_in h c.args.client ≡ false =
    sym (named_is_found h c.args.client) ∙ ap is_some (sym c.in_err-authentication.ensures) in
    ap is_some c.from_residual-in_err-authentication.ensures ∙ sym (λ i. root i || master i || named i)

pub returns-in_err-at-3-clause-known : goal.returns-in_err-at-3-clause-known
returns-in_err-at-3-clause-known c =
    let h = c.args.ledger.now in
    let within : IsStep (length h) c.in_ok-authentication.authentication.step =
    subst (λ o. IfSome o (λ (a : Authentication). IsStep (length h) a.step)) (sym c.in_ok-authentication.ensures)
    (authentication_within h c.args.client) in
    absurd
    (not_missing c.steps-steps.result.now h c.in_ok-authentication.authentication.step c.steps-steps.ensures within c.in_err-at-3.ensures.numbers)

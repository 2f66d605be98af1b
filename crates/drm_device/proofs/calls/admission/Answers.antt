use Rattle.std.proofs.Common.{◌≡◌, true, false, Option, None, Some, refl, sym, ap, subst, ◌∙◌}
use Rattle.drm_table.specs.Permit.{first_failing, permit_checks}
use Rattle.drm_table.specs.Table.{flags_of}
use Rattle.drm_table.specs.declared.calls.Call.{Call}
use Rattle.drm_table.specs.declared.permits.Standing.{Standing}
use Rattle.drm_table.specs.declared.rules.Rule.{Rule}
use Rattle.drm_model.specs.Verdict.{admission_checks, is_known, is_laid_out}
use Rattle.drm_state.specs.declared.state.State.{State}
use Rattle.drm_state.specs.declared.caller.Caller.{Caller}
use Rattle.drm_state.specs.Callers.{IsCaller}
use Rattle.drm_state.specs.Refinement.{IsAdmission}
use Rattle.drm_state.proofs.Refinements.{admitted_by_permit}
use Rattle.drm_state.proofs.Lookups.{client_row_is, is_open_is, credentials_is}
use Rattle.drm_device.proofs.Primaries.{permits_render}
use Rattle.drm_device.proofs.calls.admission.Goals as goal

pub returns-then-not-is_known-clause-err : goal.returns-then-not-is_known-clause-err
unfolding IsAdmission admission_checks
returns-then-not-is_known-clause-err c = λ w h.
    let known : is_known c.args.call.now ≡ false = sym c.is_known.ensures ∙ c.if-not-is_known.true in
    rw known refl

pub returns-then-not-is_laid_out-clause-err : goal.returns-then-not-is_laid_out-clause-err
unfolding IsAdmission admission_checks
returns-then-not-is_laid_out-clause-err c = λ w h.
    let known : is_known c.args.call.now ≡ true = sym c.is_known.ensures ∙ c.if-not-is_known.false in
    let laid : is_laid_out c.args.call.now ≡ false = sym c.is_laid_out.ensures ∙ c.if-not-is_laid_out.true in
    rw (known, laid) refl

pub returns-in_default-clause-err : goal.returns-in_default-clause-err
unfolding IsAdmission admission_checks
returns-in_default-clause-err c = λ w h.
    let known : is_known c.args.call.now ≡ true = sym c.is_known.ensures ∙ c.if-not-is_known.false in
    let laid : is_laid_out c.args.call.now ≡ true = sym c.is_laid_out.ensures ∙ c.if-not-is_laid_out.false in
    rw (known, laid, is_open_is c.args.state.now w h c.args.client ∙ c.in_default.ensures.none) refl

-- what the permits of a known call that is laid out are, for a caller
permitted : (s : State) (k : Caller) (call : Call) (rule : Option Rule) → IsCaller s k → is_known call ≡ true
    → is_laid_out call ≡ true →
    rule ≡ first_failing
    (permit_checks (flags_of call) (record { root = k.flags.root; render = k.flags.render; authenticated = k.flags.authenticated; current = k.current }))
    → IsAdmission s k.client call rule
unfolding IsAdmission
permitted s k call rule is known laid e = λ w h.
    e
    ∙ ap (λ t. first_failing (permit_checks (flags_of call) t))
    (ap (λ b. let r : Standing = record { root = k.flags.root; render = k.flags.render; authenticated = k.flags.authenticated; current = b } in r) is.current ∙ sym (credentials_is s w h k.client k.flags))
    ∙ sym (admitted_by_permit w k.client call _ known laid (client_row_is s w h k.client k.flags is.flags))

pub returns-in-Some-permit-clause-err : goal.returns-in-Some-permit-clause-err
returns-in-Some-permit-clause-err c =
    let call = c.args.call.now in
    let known : is_known call ≡ true = sym c.is_known.ensures ∙ c.if-not-is_known.false in
    let laid : is_laid_out call ≡ true = sym c.is_laid_out.ensures ∙ c.if-not-is_laid_out.false in
    subst (λ n. IsAdmission c.args.state.now n call (Some c.in-Some-permit.rule)) c.in-Some.ensures.client
    (permitted c.args.state.now c.in-Some.caller call (Some c.in-Some-permit.rule) c.in-Some.ensures.caller known laid
    (sym c.in-Some-permit.is ∙ c.permit.ensures ∙ (λ i. first_failing (permit_checks (c.flags.ensures i) (c.credentials.ensures i)))))

pub returns-in-None-clause-ok : goal.returns-in-None-clause-ok
returns-in-None-clause-ok c =
    let call = c.args.call.now in
    let known : is_known call ≡ true = sym c.is_known.ensures ∙ c.if-not-is_known.false in
    let laid : is_laid_out call ≡ true = sym c.is_laid_out.ensures ∙ c.if-not-is_laid_out.false in
    subst (λ n. IsAdmission c.args.state.now n call None) c.in-Some.ensures.client
    (permitted c.args.state.now c.in-Some.caller call None c.in-Some.ensures.caller known laid
    (sym c.in-None.is ∙ c.permit.ensures ∙ (λ i. first_failing (permit_checks (c.flags.ensures i) (c.credentials.ensures i)))))

pub returns-in-None-clause-render : goal.returns-in-None-clause-render
returns-in-None-clause-render c =
    permits_render (flags_of c.args.call.now)
    (record { root = c.in-Some.caller.flags.root; render = c.in-Some.caller.flags.render; authenticated = c.in-Some.caller.flags.authenticated; current = c.in-Some.caller.current })
    (sym (sym c.in-None.is ∙ c.permit.ensures ∙ (λ i. first_failing (permit_checks (c.flags.ensures i) (c.credentials.ensures i)))))

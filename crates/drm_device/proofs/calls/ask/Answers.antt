use Rattle.std.proofs.Common.{◌≡◌, None, sym, subst}
use Rattle.drm_table.specs.declared.events.Event.TheVariants.{Ask}
use Rattle.drm_table.specs.Permit.{first_failing}
use Rattle.drm_model.specs.Verdict.{admission_checks}
use Rattle.drm_state.specs.Refinement.{Refines, RefinesCall, IsAdmission, IsRefined}
use Rattle.drm_state.proofs.Refinements.{denied, unadmitted}
use Rattle.drm_state.specs.Places.{outcome}
use Rattle.drm_device.proofs.calls.ask.Goals as goal

pub returns-in-Err-clause-refines : goal.returns-in-Err-clause-refines
unfolding Refines IsAdmission
returns-in-Err-clause-refines c = rw c.set_denied.ensures.denied (λ w s.
    denied c.args.state.now w (Ask c.args.client c.args.call.now) c.in-Err.rule
    (unadmitted w c.args.client c.args.call.now c.in-Err.rule (sym (c.in-Err.ensures.err w s.rows))) s.rows)

pub returns-in-Ok-clause-refines : goal.returns-in-Ok-clause-refines
unfolding Refines RefinesCall IsAdmission
returns-in-Ok-clause-refines c = λ w s.
    let call = c.args.call.now in
    subst (λ n. IsRefined w (Ask n call) (outcome c.carry_out.result c.carry_out.new.answer) c.carry_out.new.state)
    c.in-Ok.ensures.client
    (c.carry_out.ensures.refines w s (subst (λ n. first_failing (admission_checks w n call) ≡ None) (sym c.in-Ok.ensures.client) (sym (c.in-Ok.ensures.ok w s.rows))))

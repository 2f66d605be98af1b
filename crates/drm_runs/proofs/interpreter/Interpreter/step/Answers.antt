use Rattle.std.proofs.Common.{refl, subst, ap, ◌∙◌}
use Rattle.drm_runs.specs.Script.{IsAt}
use Rattle.drm_runs.specs.Interpreter.{InterpreterState, device_made, place_of}
use Rattle.drm_runs.proofs.InterpreterLemmas.{not_made, at_some, steps_on, step_limits, limits_stay}
use Rattle.drm_runs.proofs.interpreter.Interpreter.step.Goals as goal

pub first_step-requires : goal.first_step-requires
first_step-requires c = let s = c.self.inside in record { unmade = ap (λ o. device_made (place_of o s.planned)) c.in-None.is ∙ not_made s.planned }

pub invariant_of-self : goal.invariant_of-self
invariant_of-self c =
    let s = c.self.inside in
    let kept =
    step_limits c.in-Some.device c.step_at.new.self c.args.event.now c.step_at.new.outcome c.step_at.ensures.ok
    c.step_at.ensures.err in
    (c.self.invariant.0, limits_stay s.device s.planned s.limits c.in-Some.device c.step_at.new.self c.in-Some.is c.self.invariant.1 kept)

pub returns-in-Some-clause-some : goal.returns-in-Some-clause-some
returns-in-Some-clause-some c =
    let s = c.self.inside in
    let before = c.in-Some.device in
    let after = c.step_at.new.self in
    let steps =
    steps_on before after c.args.event.now c.step_at.new.outcome c.step_at.ensures.step c.step_at.ensures.ok
    c.step_at.ensures.err in
    (before, after, subst (λ (s : InterpreterState). IsAt s.device before) c.self.view_is (at_some s.device s.planned before c.in-Some.is), steps, refl)

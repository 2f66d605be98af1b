use Rattle.std.proofs.Common.{◌≡◌, Some, refl, subst, ap, ◌∙◌}
use Rattle.drm_runs.specs.Script.{IsAt}
use Rattle.drm_runs.specs.Interpreter.{InterpreterState, device_made}
use Rattle.drm_runs.proofs.InterpreterLemmas.{at_none, steps_on, step_limits, limits_begin, unmade}
use Rattle.drm_runs.proofs.interpreter.Interpreter.first_step.Goals as goal

pub invariant_of-self-2 : goal.invariant_of-self-2
invariant_of-self-2 c =
    let s = c.self.inside in
    let none =
    unmade s.device s.planned
    (ap (λ (u : InterpreterState). device_made u.device) c.self.view_is ∙ c.requires.unmade) in
    let setup = c.in_ok-setup.setup in
    let device = c.in_ok-device.device in
    let kept =
    step_limits device c.step_at.new.self c.args.event.now c.step_at.new.outcome c.step_at.ensures.ok
    c.step_at.ensures.err in
    let planned : s.planned ≡ Some setup = let taken = c.take.ensures.value in let is = c.in_ok-setup.was in cc in
    (c.self.invariant.0, limits_begin s.device s.planned s.limits setup device c.step_at.new.self none planned c.self.invariant.1 c.in_ok-device.ensures kept)

pub returns-clause-some : goal.returns-clause-some
returns-clause-some c =
    let s = c.self.inside in
    let none =
    unmade s.device s.planned
    (ap (λ (u : InterpreterState). device_made u.device) c.self.view_is ∙ c.requires.unmade) in
    let setup = c.in_ok-setup.setup in
    let before = c.in_ok-device.device in
    let after = c.step_at.new.self in
    let planned : s.planned ≡ Some setup = let taken = c.take.ensures.value in let is = c.in_ok-setup.was in cc in
    let here = at_none s.device s.planned setup before none planned c.in_ok-device.ensures in
    let steps =
    steps_on before after c.args.event.now c.step_at.new.outcome c.step_at.ensures.step c.step_at.ensures.ok
    c.step_at.ensures.err in
    (before, after, subst (λ (s : InterpreterState). IsAt s.device before) c.self.view_is here, steps, refl)

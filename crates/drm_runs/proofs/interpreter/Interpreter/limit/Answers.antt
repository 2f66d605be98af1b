use Rattle.std.proofs.Common.{◌≡◌, Some, refl, sym, ap, ◌∙◌}
use Rattle.drm_model.specs.Run.{DeviceValue}
use Rattle.drm_runs.specs.Script.{Setting, empty_device}
use Rattle.drm_runs.specs.Script.Place.{Made}
use Rattle.drm_runs.specs.Interpreter.{InterpreterState}
use Rattle.drm_runs.proofs.InterpreterLemmas.{some_of, none_of, made_is, planned_is}
use Rattle.drm_runs.proofs.interpreter.Interpreter.limit.Goals as goal

pub returns-then-is_some : goal.returns-then-is_some
returns-then-is_some c =
    let s = c.self.inside in
    let device = some_of s.device (sym c.is_some.ensures ∙ c.if-is_some.true) in
    (device.0, sym (ap (λ (s : InterpreterState). s.device) c.self.view_is) ∙ made_is s.device s.planned device.0 device.1, refl)

pub invariant_of-self-2 : goal.invariant_of-self-2
invariant_of-self-2 c =
    let device = ap (λ (h : DeviceValue). h.limits) c.in-Some-make.ensures in
    let setup = ap (λ (s : Setting). s.limits) c.limited_to.ensures in
    (c.requires, sym (device ∙ setup))

pub returns : goal.returns
returns c =
    let s = c.self.inside in
    let setup = c.in-Some.setup in
    let none = none_of s.device (sym c.is_some.ensures ∙ c.if-is_some.false) in
    let planned : s.planned ≡ Some setup = let taken = c.take.ensures.value in let is = c.in-Some.is in cc in (
      setup,
      sym (ap (λ (s : InterpreterState). s.device) c.self.view_is) ∙ planned_is s.device s.planned setup none planned,
      ap Made (c.in-Some-make.ensures ∙ ap empty_device c.limited_to.ensures),
      ap (λ (s : InterpreterState). s.labels) c.self.view_is,
    )

use Rattle.std.proofs.Common.{◌≡◌, ℕ, List, length, take, sym, ◌∙◌, ap, subst}
use Rattle.drm_history.specs.Holds.{Has}
use Rattle.drm_trails.specs.Chains.{HasNone, IsOfDevice}
use Rattle.drm_trails.specs.Steps.{history_of}
use Rattle.drm_trails.specs.declared.steps.Step.{Step}
use Rattle.drm_refusals.proofs.SizeLemmas.{bytes_are, has_object, has_step}
use Rattle.drm_refusals.proofs.sizes.size_of.Goals as goal

pub returns-in_err-object : goal.returns-in_err-object
returns-in_err-object c = λ of_device object bytes has made.
    let history = c.args.context.ledger.now in
    let steps = c.steps-steps.result.now in
    let is : history_of steps ≡ history = ap history_of c.steps-steps.ensures ∙ c.trail-trail.ensures in
    let none =
    subst
    (λ (all : List Step). IsOfDevice (history_of (take (length steps) all)) → HasNone (history_of (take (length steps) all)) c.args.client c.from.result)
    (sym c.steps-steps.ensures) c.in_err-object.ensures.none in
    let its = subst (λ (h : ℕ). Has history c.args.client h object) (sym c.from.ensures) has in
    absurd (has_object history steps c.args.client c.from.result is none of_device object its)

pub returns-in_err-step : goal.returns-in_err-step
returns-in_err-step c = λ of_device object bytes has made.
    let history = c.args.context.ledger.now in
    let steps = c.steps-steps.result.now in
    let is : history_of steps ≡ history = ap history_of c.steps-steps.ensures ∙ c.trail-trail.ensures in
    let found = c.in_ok-object.object in
    let one =
    subst (λ (all : List Step). Has (history_of (take (length steps) all)) c.args.client c.from.result found)
    (sym c.steps-steps.ensures) c.in_ok-object.ensures.object in
    let its = subst (λ (h : ℕ). Has history c.args.client h object) (sym c.from.ensures) has in
    absurd
    (has_step history steps c.args.client c.from.result is found object bytes one of_device its made c.in_err-step.ensures.numbers)

pub returns : goal.returns
returns c = λ of_device object bytes has made.
    let history = c.args.context.ledger.now in
    let steps = c.steps-steps.result.now in
    let is : history_of steps ≡ history = ap history_of c.steps-steps.ensures ∙ c.trail-trail.ensures in
    let found = c.in_ok-object.object in
    let one =
    subst (λ (all : List Step). Has (history_of (take (length steps) all)) c.args.client c.from.result found)
    (sym c.steps-steps.ensures) c.in_ok-object.ensures.object in
    let its = subst (λ (h : ℕ). Has history c.args.client h object) (sym c.from.ensures) has in
    c.bytes_created.ensures
    ∙ bytes_are history steps c.args.client c.from.result is found object bytes c.in_ok-step.step.now one of_device its made c.in_ok-step.ensures.step

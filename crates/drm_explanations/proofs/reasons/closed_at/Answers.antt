use Rattle.std.proofs.Common.{◌≡◌, ◌+◌, ◌-◌, ◌<◌, ◌≤◌, length, get_or, take, drop, arith, sym, ap, ◌∙◌, add-zero, rules}
use Rattle.std.proofs.lemmas.Bool.Decides.{nat_tests}
use Rattle.std.proofs.lemmas.List.{get_or-drop, length-drop, take_all}
use Rattle.std.specs.List.{slice_range}
use Rattle.drm_history.specs.Closings.{closes}
use Rattle.drm_history.specs.Effects.{effect}
use Rattle.drm_history.specs.History.{AnsweredEvent}
use Rattle.drm_trails.specs.Passing.{first_step_after}
use Rattle.drm_trails.specs.Steps.{history_of}
use Rattle.drm_trails.proofs.PassingLemmas.{first_step-early, first_step-found, first_step-passed}
use Rattle.drm_explanations.proofs.ClosingLemmas.{closed_behind}
use Rattle.drm_explanations.proofs.reasons.closed_at.Goals as goal

pub returns-then-closes-clause-step : goal.returns-then-closes-clause-step
returns-then-closes-clause-step c =
    let passes = λ (step : AnsweredEvent). closes (effect step) c.args.client in
    let later : c.in_ok-later.later.now ≡ drop c.in_ok-opened.opened c.args.steps.now = c.loop-place.invariant.later in
    let there : c.loop-place.place < length c.in_ok-later.later.now = c.loop-place-test.true in
    let size : length c.in_ok-later.later.now ≡ length c.args.steps.now - c.in_ok-opened.opened =
    ap length later ∙ length-drop _ _ in
    let n = c.in_ok-opened.opened + c.loop-place.place in
    let within : n < length c.args.steps.now = omega (arith, there, size) in
    let step =
    c.index-later-place.is ∙ ap (λ l. get_or l c.loop-place.place c.index-later-place.result) later
    ∙ get_or-drop c.in_ok-opened.opened c.args.steps.now c.loop-place.place c.index-later-place.result in
    let opened : c.args.client ≡ c.in_ok-opened.opened = grind arith in
    sym
    (first_step-found passes c.args.client c.args.steps.now n c.index-later-place.result within step (omega (arith, opened)) (sym c.closes.ensures ∙ c.if-closes.true) c.loop-place.invariant.none)

pub returns-then-closes-clause-closed : goal.returns-then-closes-clause-closed
returns-then-closes-clause-closed c =
    let later : c.in_ok-later.later.now ≡ drop c.in_ok-opened.opened c.args.steps.now = c.loop-place.invariant.later in
    let there : c.loop-place.place < length c.in_ok-later.later.now = c.loop-place-test.true in
    let size : length c.in_ok-later.later.now ≡ length c.args.steps.now - c.in_ok-opened.opened =
    ap length later ∙ length-drop _ _ in
    let within : c.in_ok-opened.opened + c.loop-place.place < length c.args.steps.now = omega (arith, there, size) in
    let step = c.index-later-place.is ∙ ap (λ l. get_or l c.loop-place.place c.index-later-place.result) later in
    closed_behind c.args.steps.now c.in_ok-opened.opened c.loop-place.place c.args.client c.index-later-place.result
    within step (sym c.closes.ensures ∙ c.if-closes.true)

pub returns-in_err-later-clause-step : goal.returns-in_err-later-clause-step
returns-in_err-later-clause-step c =
    let passes = λ (step : AnsweredEvent). closes (effect step) c.args.client in
    let opened : c.args.client ≡ c.in_ok-opened.opened = grind arith in
    let past : length c.args.steps.now < c.in_ok-opened.opened = grind arith in
    c.from_residual-in_err-later.ensures
    ∙ sym (ap (λ l. first_step_after c.args.client passes (history_of l)) (sym (take_all (length c.args.steps.now) c.args.steps.now (omega arith)))
    ∙ first_step-early passes c.args.client c.args.steps.now (length c.args.steps.now) (omega (arith, opened, past)) (omega arith))

pub loop-place-init : goal.loop-place-init
loop-place-init c =
    let passes = λ (step : AnsweredEvent). closes (effect step) c.args.client in
    let opened : c.args.client ≡ c.in_ok-opened.opened = grind arith in
    let within : c.in_ok-opened.opened ≤ length c.args.steps.now = c.in_ok-later.ensures.lookup.0.0 in
    record {
      later =
          (let x : c.in_ok-later.later.now ≡ slice_range c.args.steps.now c.in_ok-opened.opened (length c.args.steps.now) = search rules in x)
          ∙ take_all (length c.args.steps.now - c.in_ok-opened.opened) (drop c.in_ok-opened.opened c.args.steps.now)
          (let left = length-drop c.in_ok-opened.opened c.args.steps.now in omega (arith, left));
      none =
          ap (λ k. first_step_after c.args.client passes (history_of (take k c.args.steps.now)))
          (add-zero c.in_ok-opened.opened)
          ∙ first_step-early passes c.args.client c.args.steps.now c.in_ok-opened.opened (omega (arith, opened)) within;
    }

pub loop-place-preserved : goal.loop-place-preserved
loop-place-preserved c =
    let passes = λ (step : AnsweredEvent). closes (effect step) c.args.client in
    let later : c.in_ok-later.later.now ≡ drop c.in_ok-opened.opened c.args.steps.now = c.loop-place.invariant.later in
    let there : c.loop-place.place < length c.in_ok-later.later.now = c.loop-place-test.true in
    let size : length c.in_ok-later.later.now ≡ length c.args.steps.now - c.in_ok-opened.opened =
    ap length later ∙ length-drop _ _ in
    let n = c.in_ok-opened.opened + c.loop-place.place in
    let within : n < length c.args.steps.now = omega (arith, there, size) in
    let step =
    c.index-later-place.is ∙ ap (λ l. get_or l c.loop-place.place c.index-later-place.result) later
    ∙ get_or-drop c.in_ok-opened.opened c.args.steps.now c.loop-place.place c.index-later-place.result in
    let next : c.in_ok-opened.opened + (c.loop-place.place + 1) ≡ n + 1 = omega arith in
    record {
      later = later;
      none = ap (λ k. first_step_after c.args.client passes (history_of (take k c.args.steps.now))) next
          ∙ first_step-passed passes c.args.client c.args.steps.now n c.index-later-place.result within step
          (sym c.closes.ensures ∙ c.if-closes.false) c.loop-place.invariant.none;
    }

pub returns-clause-step : goal.returns-clause-step
returns-clause-step c =
    let passes = λ (step : AnsweredEvent). closes (effect step) c.args.client in
    let later : c.in_ok-later.later.now ≡ drop c.in_ok-opened.opened c.args.steps.now = c.loop-place.invariant.later in
    let size : length c.in_ok-later.later.now ≡ length c.args.steps.now - c.in_ok-opened.opened =
    ap length later ∙ length-drop _ _ in
    let all : length c.args.steps.now ≤ c.in_ok-opened.opened + c.loop-place.place =
    (let ends = c.loop-place-test.false in grind (arith, nat_tests)) in
    sym
    (ap (λ l. first_step_after c.args.client passes (history_of l)) (sym (take_all (c.in_ok-opened.opened + c.loop-place.place) c.args.steps.now all)) ∙ c.loop-place.invariant.none)

use Rattle.std.proofs.Common.{◌≡◌, ◌+◌, ◌-◌, ◌<◌, ◌≤◌, length, get_or, take, drop, arith, sym, ap, ◌∙◌, add-zero}
use Rattle.std.proofs.lemmas.List.{get_or-drop, length-drop}
use Rattle.drm_trails.specs.Passing.{first_step_after}
use Rattle.drm_trails.specs.Steps.{history_of, key_of}
use Rattle.drm_trails.proofs.PassingLemmas.{first_step-early, first_step-found, first_step-passed}
use Rattle.drm_refusals.specs.Withdrawals.{withdraws}
use Rattle.drm_refusals.proofs.withdrawals.withdrawn.Goals as goal

pub loop-place-init : goal.loop-place-init
loop-place-init c =
    let count = c.args.published.past + 1 in
    let passes = withdraws (key_of c.args.key) c.args.published.client in
    let within : count ≤ length c.args.steps.now =
    (let below : c.args.published.past < length c.args.steps.now = c.requires in omega (arith, below)) in
    record {
      later = c.split_at.ensures.back;
      none =
          ap (λ k. first_step_after count passes (history_of (take k c.args.steps.now))) (add-zero count)
          ∙ first_step-early passes count c.args.steps.now count (omega arith) within;
    }

pub returns-then-withdraws : goal.returns-then-withdraws
returns-then-withdraws c =
    let count = c.args.published.past + 1 in
    let passes = withdraws (key_of c.args.key) c.args.published.client in
    let later : c.split_at.result.1.now ≡ drop count c.args.steps.now = c.loop-place.invariant.later in
    let there : c.loop-place.place < length c.split_at.result.1.now = c.loop-place-test.true in
    let size : length c.split_at.result.1.now ≡ length c.args.steps.now - count = ap length later ∙ length-drop _ _ in
    let n = count + c.loop-place.place in
    let within : n < length c.args.steps.now = omega (arith, there, size) in
    let step =
    c.index-later-place.is ∙ ap (λ l. get_or l c.loop-place.place c.index-later-place.result) later
    ∙ get_or-drop count c.args.steps.now c.loop-place.place c.index-later-place.result in
    sym
    (first_step-found passes count c.args.steps.now n c.index-later-place.result within step (omega arith) (sym c.withdraws.ensures ∙ c.if-withdraws.true) c.loop-place.invariant.none)

pub loop-place-preserved : goal.loop-place-preserved
loop-place-preserved c =
    let count = c.args.published.past + 1 in
    let passes = withdraws (key_of c.args.key) c.args.published.client in
    let later : c.split_at.result.1.now ≡ drop count c.args.steps.now = c.loop-place.invariant.later in
    let there : c.loop-place.place < length c.split_at.result.1.now = c.loop-place-test.true in
    let size : length c.split_at.result.1.now ≡ length c.args.steps.now - count = ap length later ∙ length-drop _ _ in
    let n = count + c.loop-place.place in
    let within : n < length c.args.steps.now = omega (arith, there, size) in
    let step =
    c.index-later-place.is ∙ ap (λ l. get_or l c.loop-place.place c.index-later-place.result) later
    ∙ get_or-drop count c.args.steps.now c.loop-place.place c.index-later-place.result in
    let next : count + (c.loop-place.place + 1) ≡ n + 1 = omega arith in
    record {
      later = later;
      none = ap (λ k. first_step_after count passes (history_of (take k c.args.steps.now))) next
          ∙ first_step-passed passes count c.args.steps.now n c.index-later-place.result within step
          (sym c.withdraws.ensures ∙ c.if-withdraws.false) c.loop-place.invariant.none;
    }

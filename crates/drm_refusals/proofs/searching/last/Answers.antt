use Rattle.std.proofs.Common.{◌+◌, cond, Some, sym, ap, ◌∙◌}
use Rattle.drm_trails.specs.Passing.{last_step}
use Rattle.drm_trails.specs.Steps.{history_of}
use Rattle.drm_trails.proofs.PassingLemmas.{last_step-more, last_step-none}
use Rattle.drm_refusals.specs.Searches.{passes}
use Rattle.drm_refusals.proofs.searching.last.Goals as goal
use Rattle.drm_refusals.proofs.searching.last.Goals.{then-passes, else-passes}
use Rattle.std.proofs.Common.{take}

pub loop-place-init : goal.loop-place-init
loop-place-init c = sym (last_step-none (passes c.args.search))

pub loop-place-preserved : goal.loop-place-preserved
loop-place-preserved c =
    let its = passes c.args.search in
    let more =
    last_step-more its c.args.steps.now c.loop-place.place c.index-steps-place.result c.loop-place-test.true
    c.index-steps-place.is in
    let older = last_step its (history_of (take c.loop-place.place c.args.steps.now)) in
    elim c.if-passes.branch [
      | then-passes w ↦ w.last-is ∙ ap (λ b. cond b (Some (c.loop-place.place + 1)) older) (sym w.if-passes.true ∙ c.passes.ensures) ∙ sym more
      | else-passes w ↦ w.last-is ∙ c.loop-place.invariant ∙ ap (λ b. cond b (Some (c.loop-place.place + 1)) older) (sym w.if-passes.false ∙ c.passes.ensures) ∙ sym more
    ]

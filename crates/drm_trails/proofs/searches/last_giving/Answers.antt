use Rattle.std.proofs.Common.{◌<◌, None, Some, true, false, refl, sym, ◌∙◌, ap, arith}
use Rattle.drm_history.specs.Steps.{takes}
use Rattle.drm_trails.specs.Searches.{gift_behind}
use Rattle.drm_trails.specs.Steps.{entry_of, source_of}
use Rattle.drm_trails.proofs.HistoryLemmas.{source_of_step}
use Rattle.drm_trails.proofs.TouchLemmas.{gift_at_touch, touch_within}
use Rattle.drm_trails.proofs.searches.last_giving.Goals as goal

pub bounds-steps-past : goal.bounds-steps-past
bounds-steps-past c =
    touch_within c.args.steps.now c.args.touches.now c.requires.noted c.touches.moment c.args.client c.args.handle
    c.in-Some.touch c.in-Some.ensures.last

pub returns-in-Some-source_for-clause-last : goal.returns-in-Some-source_for-clause-last
returns-in-Some-source_for-clause-last c =
    let step = c.index-steps-past.result in
    let source =
    source_of_step c.args.client c.args.handle step c.given.result c.source_for.result
    (Some c.in-Some-source_for.source) c.given.ensures c.source_for.ensures c.in-Some-source_for.is in
    sym (c.touches.invariant.same ∙ gift_at_touch c.args.steps.now c.args.touches.now c.requires.noted c.touches.moment c.args.client c.args.handle c.in-Some.touch c.in-Some.ensures.last
    step (Some (source_of c.in-Some-source_for.source)) (takes (entry_of step) c.args.client c.args.handle) c.index-steps-past.is source refl)

pub returns-then-takes-clause-last : goal.returns-then-takes-clause-last
returns-then-takes-clause-last c =
    let step = c.index-steps-past.result in
    let source =
    source_of_step c.args.client c.args.handle step c.given.result c.source_for.result None c.given.ensures
    c.source_for.ensures c.in_default-source_for.is in
    sym (c.touches.invariant.same ∙ gift_at_touch c.args.steps.now c.args.touches.now c.requires.noted c.touches.moment c.args.client c.args.handle c.in-Some.touch c.in-Some.ensures.last
    step None true c.index-steps-past.is source (sym c.takes.ensures ∙ c.if-takes.true))

pub touches-preserved : goal.touches-preserved
touches-preserved c =
    let step = c.index-steps-past.result in
    let source =
    source_of_step c.args.client c.args.handle step c.given.result c.source_for.result None c.given.ensures
    c.source_for.ensures c.in_default-source_for.is in
    let before : c.in-Some.touch.past < c.touches.moment = c.in-Some.ensures.before in
    record {
      within = let within = c.touches.invariant.within in omega (arith, within, before);
      same =
          c.touches.invariant.same
          ∙ gift_at_touch c.args.steps.now c.args.touches.now c.requires.noted c.touches.moment c.args.client
          c.args.handle c.in-Some.touch c.in-Some.ensures.last
          step None false c.index-steps-past.is source (sym c.takes.ensures ∙ c.if-takes.false);
    }

pub returns-clause-last : goal.returns-clause-last
returns-clause-last c =
    sym
    (c.touches.invariant.same ∙ c.requires.noted.told c.touches.moment c.args.client c.args.handle ∙ ap (gift_behind c.args.steps.now c.args.client c.args.handle) (sym c.in_default.ensures.last))

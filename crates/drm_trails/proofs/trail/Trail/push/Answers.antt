use Rattle.std.proofs.Common.{List, ◌∷◌, [], ◌++◌, option_to_list, sym, ◌∙◌, ap}
use Rattle.drm_trails.specs.Searches.{publications_of, touch_in_step}
use Rattle.drm_trails.specs.Steps.{entry_of, givings_of, history_of}
use Rattle.drm_trails.specs.Objects.{object_by}
use Rattle.drm_trails.specs.declared.steps.Step.{Step}
use Rattle.drm_trails.proofs.TrailLemmas.{noted_along, noted_more}
use Rattle.drm_trails.proofs.TouchLemmas.{touched_along, touched_more}
use Rattle.drm_trails.proofs.ObjectLemmas.{known_along, known_more}
use Rattle.drm_trails.proofs.trail.Trail.push.Goals as goal

pub invariant_of-result : goal.invariant_of-result
invariant_of-result c =
    let old = c.self.inside in
    let past = c.len-past.ensures ∙ old.steps.ok.0 in (
      noted_along (old.steps.items ++ c.args.step ∷ []) _ _ _
          c.in_ok-with_item.ensures
          (c.in_ok-with_item-2.ensures ∙ ap (λ o. old.publications.items ++ option_to_list o) (c.publication_of-publication.ensures ∙ ap (publications_of c.published.result) past))
          (noted_more old.steps.items c.args.step old.publications.items c.self.invariant.0 c.published.result c.published.ensures),
      touched_along (old.steps.items ++ c.args.step ∷ []) _ _ _
          c.in_ok-with_item.ensures
          (c.in_ok-with_item-3.ensures ∙ ap (λ o. old.touches.items ++ option_to_list o) (c.touch_of-touch.ensures ∙ ap (λ n. touch_in_step n (entry_of c.args.step)) past))
          (touched_more old.steps.items c.args.step old.touches.items c.self.invariant.1),
      known_along (old.steps.items ++ c.args.step ∷ []) _ _ _
          c.in_ok-with_item.ensures
          c.in_ok-with_item-4.ensures
          (known_more old.steps.items c.args.step old.objects.items c.object_by-object.result c.self.invariant.2 (c.object_by-object.ensures ∙ ap (λ (steps : List Step). object_by (history_of steps) (givings_of c.given.result)) (sym c.self.view_is) ∙ ap (object_by (history_of old.steps.items)) c.given.ensures)),
    )

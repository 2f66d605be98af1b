use Rattle.std.proofs.Common.{List, take, ◌∙◌, ap}
use Rattle.drm_trails.specs.Objects.{object_held}
use Rattle.drm_trails.specs.Steps.{history_of}
use Rattle.drm_trails.specs.declared.steps.Step.{Step}
use Rattle.drm_trails.proofs.ObjectLemmas.{held_is_had, held_is_none}
use Rattle.drm_trails.proofs.trail.Trail.object_of.Goals as goal

pub returns-clause-object : goal.returns-clause-object
returns-clause-object c =
    let same = c.deref.ensures.value ∙ c.self.view_is in
    held_is_had (history_of (take c.args.count c.args.self.now)) c.args.client c.args.handle c.object_held.result
    (c.object_held.ensures ∙ ap (λ (steps : List Step). object_held (history_of (take c.args.count steps)) c.args.client c.args.handle) same)

pub returns-clause-none : goal.returns-clause-none
returns-clause-none c =
    let same = c.deref.ensures.value ∙ c.self.view_is in
    held_is_none (history_of (take c.args.count c.args.self.now)) c.args.client c.args.handle c.object_held.result
    (c.object_held.ensures ∙ ap (λ (steps : List Step). object_held (history_of (take c.args.count steps)) c.args.client c.args.handle) same)

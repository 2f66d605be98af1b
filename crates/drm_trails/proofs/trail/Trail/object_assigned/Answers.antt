use Rattle.std.proofs.Common.{◌≡◌, Option, Some, sym, ◌∙◌}
use Rattle.drm_trails.specs.Objects.{AreObjects, object_assigned}
use Rattle.drm_trails.specs.Steps.{history_of}
use Rattle.drm_trails.proofs.ObjectLemmas.{assigned_is_held, assigned_is_in, held_is_had, held_is_none, known_along}
use Rattle.drm_trails.proofs.trail.Trail.object_assigned.Goals as goal

known : (c : goal.After-object_assigned_in) → AreObjects c.args.self.now c.deref.result.now
known c = known_along c.self.inside.steps.items c.args.self.now _ _ (sym c.self.view_is) c.deref.ensures.value c.self.invariant.2

pub returns-clause-assigned : goal.returns-clause-assigned
returns-clause-assigned c =
    c.object_assigned_in.ensures ∙ assigned_is_in c.args.self.now _ c.args.step (known c)

pub returns-clause-object : goal.returns-clause-object
returns-clause-object c = λ client handle given.
    held_is_had (history_of c.args.self.now) client handle c.object_assigned_in.result
    (c.object_assigned_in.ensures ∙ assigned_is_held c.args.self.now _ client handle c.args.step (known c) given)

pub returns-clause-none : goal.returns-clause-none
returns-clause-none c = λ client handle given.
    held_is_none (history_of c.args.self.now) client handle c.object_assigned_in.result
    (c.object_assigned_in.ensures ∙ assigned_is_held c.args.self.now _ client handle c.args.step (known c) given)

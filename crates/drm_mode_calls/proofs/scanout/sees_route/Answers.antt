use Rattle.std.proofs.Common.{◌==◌, ◌&&◌, ◌||◌, sym, ap, ◌∙◌}
use Rattle.std.specs.Option.{is_some}
use Rattle.drm_modes.specs.declared.kinds.Kind.TheVariants.{Connector}
use Rattle.drm_state.specs.Seeing.{sees_object}
use Rattle.drm_mode_calls.proofs.scanout.sees_route.Goals as goal

pub returns-in_default : goal.returns-in_default
returns-in_default c =
    sym
    (ap (λ b. b && ((c.args.connector == 0) || sees_object c.args.state.now c.args.caller Connector c.args.connector)) (sym c.view_with.ensures.object ∙ ap is_some c.in_default.is))

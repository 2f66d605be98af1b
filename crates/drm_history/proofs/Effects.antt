-- A denial does nothing.
use Rattle.std.proofs.Common.{◌≡◌, refl}
use Rattle.drm_table.specs.declared.calls.Call.TheVariants.{GetMagic}
use Rattle.drm_table.specs.declared.events.Event.{Event}
use Rattle.drm_table.specs.declared.events.Event.TheVariants.{Open, Ask, Close}
use Rattle.drm_table.specs.declared.rules.Rule.{Rule}
use Rattle.drm_history.specs.Effects.{Nothing, effect}
use Rattle.drm_history.proofs.AlwaysHolds.{denied}

-- A denied event has no effect.
pub denied_nothing : (event : Event) (rule : Rule) → effect (denied event rule) ≡ Nothing
unfolding effect
denied_nothing (Open opening) rule = refl
denied_nothing (Ask c GetMagic) rule = refl
denied_nothing (Ask c _) rule = refl
denied_nothing (Close c) rule = refl

use Rattle.std.proofs.Common.{refl}
use Rattle.drm_table.specs.Limits.{are_in_range}
use Rattle.drm_commands.proofs.devices.asked_limits.Goals as goal

pub returns-in_default : goal.returns-in_default
unfolding are_in_range
returns-in_default g c = refl

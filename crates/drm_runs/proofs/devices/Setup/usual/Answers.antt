use Rattle.std.proofs.Common.{refl}
use Rattle.drm_table.specs.Limits.{are_in_range}
use Rattle.drm_runs.proofs.devices.Setup.usual.Goals as goal

pub new-requires : goal.new-requires
unfolding are_in_range
new-requires c = record { in_range = refl }

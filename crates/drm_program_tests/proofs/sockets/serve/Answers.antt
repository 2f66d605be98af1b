use Rattle.std.proofs.Common.{refl}
use Rattle.drm_table.specs.Limits.{are_in_range}
use Rattle.drm_program_tests.proofs.sockets.serve.Goals as goal

pub make_device-requires : goal.make_device-requires
unfolding are_in_range
make_device-requires g c = refl

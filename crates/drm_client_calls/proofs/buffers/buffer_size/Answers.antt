use Rattle.std.proofs.Common.{refl}
use Rattle.drm_model.specs.Buffers.{buffer_size}
use Rattle.drm_client_calls.proofs.buffers.buffer_size.Goals as goal

pub returns : goal.returns
unfolding buffer_size
returns c = refl

use Rattle.std.proofs.Common.{ap, ◌*◌}
use Rattle.drm_model.specs.Buffers.{dumb_pitch, rounded_up}
use Rattle.drm_client_calls.proofs.buffers.dumb_pitch.Goals as goal

pub returns-clause-value : goal.returns-clause-value
unfolding dumb_pitch
returns-clause-value c = ap (λ bytes. rounded_up 64 (c.args.width * bytes)) c.bytes_per_pixel.ensures.value

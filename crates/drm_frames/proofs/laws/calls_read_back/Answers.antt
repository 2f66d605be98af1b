use Rattle.drm_frames.proofs.ReadBack.{call-back}
use Rattle.drm_frames.proofs.laws.calls_read_back.Goals as goal

pub returns : goal.returns
returns c = call-back

use Rattle.drm_frames.proofs.FrameLaws.{one-reading}
use Rattle.drm_frames.proofs.laws.one_reading.Goals as goal

pub returns : goal.returns
returns c = one-reading

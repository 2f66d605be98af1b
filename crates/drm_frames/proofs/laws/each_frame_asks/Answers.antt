use Rattle.drm_frames.proofs.CallLaws.{asks}
use Rattle.drm_frames.proofs.laws.each_frame_asks.Goals as goal

pub returns : goal.returns
returns c = asks

use Rattle.drm_frames.proofs.HelloLaws.{greets}
use Rattle.drm_frames.proofs.laws.each_frame_greets.Goals as goal

pub returns : goal.returns
returns c = greets

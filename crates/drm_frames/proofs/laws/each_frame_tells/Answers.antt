use Rattle.drm_frames.proofs.AnswerLaws.{tells}
use Rattle.drm_frames.proofs.laws.each_frame_tells.Goals as goal

pub returns : goal.returns
returns c = tells

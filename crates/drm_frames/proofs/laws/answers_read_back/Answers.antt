use Rattle.drm_frames.proofs.ReadBack.{answer-back}
use Rattle.drm_frames.proofs.laws.answers_read_back.Goals as goal

pub returns : goal.returns
returns c = answer-back

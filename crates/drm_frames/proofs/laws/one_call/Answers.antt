use Rattle.drm_frames.proofs.CallLaws.{found}
use Rattle.drm_frames.proofs.laws.one_call.Goals as goal

pub returns : goal.returns
returns c = found

use Rattle.drm_frames.proofs.ReadBack.{hello-back}
use Rattle.drm_frames.proofs.laws.hellos_read_back.Goals as goal

pub returns : goal.returns
returns c = hello-back

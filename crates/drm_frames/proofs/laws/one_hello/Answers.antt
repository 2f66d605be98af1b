use Rattle.drm_frames.proofs.HelloLaws.{hello-found}
use Rattle.drm_frames.proofs.laws.one_hello.Goals as goal

pub returns : goal.returns
returns c = hello-found

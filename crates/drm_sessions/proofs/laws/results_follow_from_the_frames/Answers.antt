use Rattle.drm_sessions.proofs.SameInput.{results-found}
use Rattle.drm_sessions.proofs.laws.results_follow_from_the_frames.Goals as goal

pub returns : goal.returns
returns c = results-found

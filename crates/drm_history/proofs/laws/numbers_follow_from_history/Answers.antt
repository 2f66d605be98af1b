use Rattle.drm_history.proofs.RunsAgree.{numbers_follow}
use Rattle.drm_history.proofs.laws.numbers_follow_from_history.Goals as goal

pub returns : goal.returns
returns c = numbers_follow

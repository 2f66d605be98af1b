use Rattle.drm_history.proofs.Follows.{authority_of_answers}
use Rattle.drm_history.proofs.authority.authority_follows_from_answers.Goals as goal

pub returns : goal.returns
returns c = authority_of_answers

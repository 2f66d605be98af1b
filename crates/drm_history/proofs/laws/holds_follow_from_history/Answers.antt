use Rattle.drm_history.proofs.RunsAgree.{holds_follow, holds_follow_answers}
use Rattle.drm_history.proofs.laws.holds_follow_from_history.Goals as goal

pub returns-clause-rows : goal.returns-clause-rows
returns-clause-rows c = holds_follow

pub returns-clause-answers : goal.returns-clause-answers
returns-clause-answers c = holds_follow_answers

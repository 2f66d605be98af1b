use Rattle.drm_runs.proofs.AnswerLaws.{answered}
use Rattle.drm_runs.proofs.laws.scripts_are_answered.Goals as goal

pub returns : goal.returns
returns c = λ setting lines results device labels script. answered script

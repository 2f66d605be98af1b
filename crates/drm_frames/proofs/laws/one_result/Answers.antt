use Rattle.drm_frames.proofs.AnswerTexts.{answer-found}
use Rattle.drm_frames.proofs.laws.one_result.Goals as goal

pub returns : goal.returns
returns c = answer-found

use Rattle.drm_script.proofs.LineLaws.{answer_bare}
use Rattle.drm_script.proofs.laws.answers_take_one_line.Goals as goal

pub returns : goal.returns
returns c outcome = answer_bare outcome

use Rattle.std.proofs.Common.{refl}
use Rattle.drm_model.specs.Run.{Answers}
use Rattle.drm_model.proofs.Runs.{answers_push}
use Rattle.drm_model.proofs.laws.answers_go_on.Goals as goal

pub returns-clause-none : goal.returns-clause-none
unfolding Answers
returns-clause-none c = λ w. refl

pub returns-clause-one_more : goal.returns-clause-one_more
returns-clause-one_more c =
    λ w events results v event result u answers step. answers_push w events results v event result u answers step

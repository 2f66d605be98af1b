use Rattle.std.proofs.Common.{ap}
use Rattle.drm_model.specs.Change.{after, after_verdict}
use Rattle.drm_model.proofs.laws.denials_change_no_row.Goals as goal

pub returns : goal.returns
unfolding after
returns c = λ w event rule denied. ap (λ v. after_verdict v w event) denied

use Rattle.drm_history.proofs.RunsAgree.{numbers_differ}
use Rattle.drm_history.proofs.laws.numbers_differ.Goals as goal

pub returns : goal.returns
returns c = numbers_differ

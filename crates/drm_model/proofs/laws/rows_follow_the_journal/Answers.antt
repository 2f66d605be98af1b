use Rattle.drm_model.proofs.Journals.{rows_journaled}
use Rattle.drm_model.proofs.laws.rows_follow_the_journal.Goals as goal

pub returns : goal.returns
returns c = rows_journaled

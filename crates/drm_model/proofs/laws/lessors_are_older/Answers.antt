use Rattle.drm_model.proofs.OlderLessors.{were_made, lessors_are_older}
use Rattle.drm_model.proofs.laws.lessors_are_older.Goals as goal

pub returns-clause-made : goal.returns-clause-made
returns-clause-made c = were_made

pub returns-clause-older : goal.returns-clause-older
returns-clause-older c = lessors_are_older

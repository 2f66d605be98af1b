use Rattle.drm_frames.proofs.RowLaws.{row-there, no-row-there, number-of-row}
use Rattle.drm_frames.proofs.laws.rows_of_the_table.Goals as goal

pub returns-clause-has : goal.returns-clause-has
returns-clause-has c = row-there

pub returns-clause-no_other : goal.returns-clause-no_other
returns-clause-no_other c = no-row-there

pub returns-clause-number : goal.returns-clause-number
returns-clause-number c = number-of-row

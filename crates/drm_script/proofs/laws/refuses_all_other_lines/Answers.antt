use Rattle.drm_script.proofs.ReadingLaws.{other_line, line_other}
use Rattle.drm_script.proofs.laws.refuses_all_other_lines.Goals as goal

pub returns : goal.returns
returns c line = (other_line line, line_other line)

use Rattle.drm_script.proofs.ReadingLaws.{limits_line, line_limits}
use Rattle.drm_script.proofs.laws.reads_limits_lines.Goals as goal

pub returns : goal.returns
returns c line limits = (limits_line line limits, line_limits line limits)

use Rattle.drm_script.proofs.ReadingLaws.{skipped_line, line_skipped}
use Rattle.drm_script.proofs.laws.skips_comments_and_blank_lines.Goals as goal

pub returns : goal.returns
returns c line = (skipped_line line, line_skipped line)

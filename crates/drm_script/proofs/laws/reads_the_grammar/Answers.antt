use Rattle.drm_script.proofs.ReadingLaws.{command_line, line_command}
use Rattle.drm_script.proofs.laws.reads_the_grammar.Goals as goal

pub returns : goal.returns
returns c line command = (command_line line command, line_command line command)

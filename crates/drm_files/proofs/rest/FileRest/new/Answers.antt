use Rattle.drm_files.proofs.Rests.{all_left}
use Rattle.drm_files.proofs.rest.FileRest.new.Goals as goal

pub returns : goal.returns
returns c = all_left c.args.handles

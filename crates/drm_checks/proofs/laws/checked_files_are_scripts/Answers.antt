use Rattle.drm_checks.proofs.CheckedLaws.{script_of}
use Rattle.drm_checks.proofs.laws.checked_files_are_scripts.Goals as goal

pub returns : goal.returns
returns c = λ setting lines passed differences device labels checked. script_of checked

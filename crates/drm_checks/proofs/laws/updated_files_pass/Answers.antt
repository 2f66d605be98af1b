use Rattle.drm_checks.proofs.UpdatedLaws.{passes_check}
use Rattle.drm_checks.proofs.laws.updated_files_pass.Goals as goal

pub returns : goal.returns
returns c = λ setting lines updated device labels u. passes_check u

use Rattle.drm_frames.proofs.CallLaws.{one-frame}
use Rattle.drm_frames.proofs.CallTexts.{row-fits}
use Rattle.drm_frames.proofs.laws.one_frame.Goals as goal

pub returns-clause-fits : goal.returns-clause-fits
returns-clause-fits c = row-fits

pub returns-clause-one : goal.returns-clause-one
returns-clause-one c = one-frame

use Rattle.drm_sessions.proofs.Openings.{Step-opening}
use Rattle.drm_sessions.proofs.alone.AloneAccess.call_at.Goals as goal

pub returns-clause-opening : goal.returns-clause-opening
returns-clause-opening c = Step-opening _ _ _ _ c.step_at.ensures.step

use Rattle.drm_history.proofs.Follows.{capabilities_follow, overlays_alone}
use Rattle.drm_history.proofs.authority.capabilities_follow_from_history.Goals as goal

pub returns-clause-clients : goal.returns-clause-clients
returns-clause-clients c = capabilities_follow

pub returns-clause-overlays : goal.returns-clause-overlays
returns-clause-overlays c = overlays_alone

use Rattle.drm_model.proofs.Endings.{revocation_ends}
use Rattle.drm_model.proofs.Lasting.{stays_ended}
use Rattle.drm_model.proofs.laws.leases_end_for_good.Goals as goal

pub returns-clause-revoked : goal.returns-clause-revoked
returns-clause-revoked c = revocation_ends

pub returns-clause-stays : goal.returns-clause-stays
returns-clause-stays c = stays_ended

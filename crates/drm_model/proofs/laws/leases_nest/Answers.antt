use Rattle.drm_model.proofs.Nested.{leases_nest}
use Rattle.drm_model.proofs.laws.leases_nest.Goals as goal

pub returns : goal.returns
returns c = leases_nest

use Rattle.std.proofs.Common.{subst}
use Rattle.drm_leases.specs.Masks.{LeaseRows}
use Rattle.drm_leases.proofs.Granting.{Rise, leases_rise}
use Rattle.drm_leases.proofs.granted.Granted.laws.Goals as goal

pub returns-clause-rise : goal.returns-clause-rise
returns-clause-rise c = subst (λ (a : LeaseRows). Rise a.rows) c.self.view_is (leases_rise c.self.inside.leases.items)

use Rattle.std.proofs.Common.{arith}
use Rattle.drm_id_alloc.proofs.table.IdTable.len.Goals as goal

pub returns-clause-bound : goal.returns-clause-bound
returns-clause-bound g c = rw (← c.self.view_is) (λ k there. omega (arith, c.self.invariant.within.high k there))

use Rattle.std.proofs.Common.{arith}
use Rattle.drm_id_alloc.proofs.table.IdTable.next.Goals as goal

pub returns-clause-bound : goal.returns-clause-bound
returns-clause-bound g c = rw (← c.self.view_is) (λ k there. omega (arith, c.self.invariant.within.high k there))

pub returns-clause-low : goal.returns-clause-low
returns-clause-low g c = rw (← c.self.view_is) c.self.invariant.within.low

pub returns-clause-high : goal.returns-clause-high
returns-clause-high g c = rw (← c.self.view_is) c.self.invariant.within.high

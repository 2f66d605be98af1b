use Rattle.std.proofs.Common.{arith}
use Rattle.drm_id_alloc.proofs.TableLemmas.{IsWithin-empty}
use Rattle.drm_id_alloc.proofs.table.IdTable.new.Goals as goal

pub invariant_of-result : goal.invariant_of-result
invariant_of-result g c = rw c.new.ensures (record {
  within = IsWithin-empty _ _ c.requires (omega arith);
  start_low = omega arith;
  used = λ id low below. absurd (omega (arith, low, below));
})

use Rattle.drm_files.specs.Primes.{prime_at}
use Rattle.drm_files.proofs.OrderFacts.{IsReached, walk_left}
use Rattle.drm_files.proofs.orders.ExportOrders.last_before.Given as goal

-- all that are after the one that the walk has are are after the new prime
abbrev pub invariant-loop-at : goal.invariant-loop-at
invariant-loop-at l = record {
  reached : IsReached (prime_at l.table.slots l.object) l.at l.prime;
}

abbrev pub decreases-loop-at : goal.decreases-loop-at
decreases-loop-at l = walk_left l.table.slots l.object l.at

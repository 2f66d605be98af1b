use Rattle.std.proofs.Common.{◌≡◌, All, map, take}
use Rattle.drm_explanations.specs.Rows as rows
use Rattle.drm_explanations.proofs.leases.lease_rows.Given as goal

abbrev pub invariant-loop-lease : goal.invariant-loop-lease
invariant-loop-lease l = record {
  tells : All (rows.TellsLease l.topology l.ledger) l.rows.items;
  names : map rows.names_of_row l.rows.items ≡ map rows.names_of (take l.lease-index l.lease-items);
}

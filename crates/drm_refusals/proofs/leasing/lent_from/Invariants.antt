use Rattle.std.proofs.Common.{◌≡◌, Bool, false, take, All}
use Rattle.std.specs.List.{list_all}
use Rattle.drm_rights.specs.Leases.{leases_in}
use Rattle.drm_refusals.specs.Facts as facts
use Rattle.drm_refusals.specs.Kinds as kinds
use Rattle.drm_refusals.proofs.leasing.lent_from.Given as goal

abbrev pub invariant-loop-lease : goal.invariant-loop-lease
invariant-loop-lease l =
    (list_all (kinds.leaves l.context.topology.now l.context.ledger.now l.lessor (kinds.leased l.context.topology.now l.context.ledger.now l.client l.ids)) (take l.lease-index (leases_in l.context.ledger.now)) ≡ false
    → kinds.Shows l.more.items kinds.is_leased_out) ×
    (All (facts.Holds l.context.topology.now l.context.limits l.context.ledger.now) l.more.items)

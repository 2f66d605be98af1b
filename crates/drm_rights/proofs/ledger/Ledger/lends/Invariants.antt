use Rattle.std.proofs.Common.{◌≡◌}
use Rattle.drm_rights.specs.Leases.{lent_in}
use Rattle.drm_rights.proofs.ledger.Ledger.lends.Given as goal

abbrev pub invariant-lessors : goal.invariant-lessors
invariant-lessors l =
    lent_in l.topology l.self l.lessee l.mode_object ≡ lent_in l.topology l.self l.master l.mode_object

abbrev pub decreases-lessors : goal.decreases-lessors
decreases-lessors l = l.master

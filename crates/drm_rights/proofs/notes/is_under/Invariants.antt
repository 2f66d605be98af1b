use Rattle.std.proofs.Common.{◌≡◌}
use Rattle.drm_index_array.specs.Chains as chains
use Rattle.drm_rights.specs.Leases.{lessor_noted}
use Rattle.drm_rights.proofs.notes.is_under.Given as goal

abbrev pub invariant-lessors : goal.invariant-lessors
invariant-lessors l =
    chains.is_under (lessor_noted l.leases) l.top l.master ≡ chains.is_under (lessor_noted l.leases) l.top l.at

abbrev pub decreases-lessors : goal.decreases-lessors
decreases-lessors l = l.at

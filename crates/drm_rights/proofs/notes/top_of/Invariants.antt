use Rattle.std.proofs.Common.{◌≡◌}
use Rattle.drm_index_array.specs.Chains as chains
use Rattle.drm_rights.specs.Leases.{lessor_noted}
use Rattle.drm_rights.proofs.notes.top_of.Given as goal

abbrev pub invariant-lessors : goal.invariant-lessors
invariant-lessors l = chains.top_of (lessor_noted l.leases) l.top ≡ chains.top_of (lessor_noted l.leases) l.master

abbrev pub decreases-lessors : goal.decreases-lessors
decreases-lessors l = l.top

use Rattle.std.proofs.Common.{◌≡◌, Bool, false, take, All}
use Rattle.std.specs.List.{list_all}
use Rattle.drm_modes.specs.Topology.{kind_of}
use Rattle.drm_refusals.specs.Facts as facts
use Rattle.drm_refusals.specs.Kinds as kinds
use Rattle.drm_refusals.proofs.leasing.unleasable_of.Given as goal

abbrev pub invariant-loop-id : goal.invariant-loop-id
invariant-loop-id l =
    (list_all (λ x. kinds.is_leasable (kind_of l.context.topology.now x)) (take l.id-index l.ids) ≡ false
    → kinds.Shows l.found.items kinds.is_id) ×
    (All (facts.Holds l.context.topology.now l.context.limits l.context.ledger.now) l.found.items)

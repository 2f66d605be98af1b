use Rattle.std.proofs.Common.{◌≡◌, Bool, false, take, All}
use Rattle.std.specs.List.{list_all}
use Rattle.drm_modes.specs.LeaseRules.{stands_once}
use Rattle.drm_refusals.specs.Facts as facts
use Rattle.drm_refusals.specs.Kinds as kinds
use Rattle.drm_refusals.proofs.leasing.repeated_of.Given as goal

abbrev pub invariant-loop-place : goal.invariant-loop-place
invariant-loop-place l =
    (list_all (stands_once (take l.place l.ids)) (take l.place l.ids) ≡ false
    → kinds.Shows l.found.items kinds.is_repetition) ×
    (All (facts.Holds l.context.topology.now l.context.limits l.context.ledger.now) l.found.items)

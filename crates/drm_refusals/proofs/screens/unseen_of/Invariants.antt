use Rattle.std.proofs.Common.{◌≡◌, Bool, false, take, All}
use Rattle.std.specs.List.{list_all}
use Rattle.std.specs.Prelude.{None}
use Rattle.drm_refusals.specs.Facts as facts
use Rattle.drm_refusals.specs.Kinds as kinds
use Rattle.drm_refusals.proofs.screens.unseen_of.Given as goal

abbrev pub invariant-loop-id : goal.invariant-loop-id
invariant-loop-id l =
    (list_all (kinds.sees_in l.context.topology.now l.context.ledger.now l.client None) (take l.id-index l.ids) ≡ false
    → kinds.Shows l.found.items kinds.is_id) ×
    (All (facts.Holds l.context.topology.now l.context.limits l.context.ledger.now) l.found.items)

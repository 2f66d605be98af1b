use Rattle.std.proofs.Common.{◌≡◌, Bool, false, take, All}
use Rattle.std.specs.List.{list_all}
use Rattle.std.specs.Prelude.{not}
use Rattle.drm_history.specs.Lessees.{granted}
use Rattle.drm_refusals.specs.declared.facts.Fact.{Fact}
use Rattle.drm_refusals.specs.Facts as facts
use Rattle.drm_refusals.specs.Kinds as kinds
use Rattle.drm_refusals.proofs.leasing.lent_of.Given as goal

abbrev pub invariant-loop-id : goal.invariant-loop-id
invariant-loop-id l =
    (list_all (λ x. not (granted l.context.topology.now l.context.ledger.now l.lease.master x)) (take l.id-index l.ids) ≡ false
    → kinds.Shows l.more.items kinds.is_leased_out) ×
    ((kind : Fact → Bool) → kinds.Shows l.fn.found.items kind → kinds.Shows l.more.items kind) ×
    (All (facts.Holds l.context.topology.now l.context.limits l.context.ledger.now) l.more.items)

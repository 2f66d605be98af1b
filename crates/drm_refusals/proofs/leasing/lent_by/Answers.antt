use Rattle.std.proofs.Common.{◌≡◌, ℕ, Bool, not, ◌∙◌, ap}
use Rattle.std.specs.List.{list_all}
use Rattle.std.proofs.lemmas.Bool.{or_parts}
use Rattle.std.proofs.lemmas.Result.{IfOk-weaker}
use Rattle.drm_history.specs.Lessees.{granted}
use Rattle.drm_refusals.specs.Kinds as kinds
use Rattle.drm_refusals.proofs.LoopLemmas.{found_both}
use Rattle.drm_refusals.proofs.leasing.lent_by.Goals as goal

pub returns-clause-has : goal.returns-clause-has
returns-clause-has c =
    let t = c.args.context.topology.now in
    let history = c.args.context.ledger.now in
    let free : ℕ → Bool = λ x. not (granted t history c.args.lease.master x) in
    let along = c.ids.ensures.ids ∙ c.brought_along-along.ensures in
    IfOk-weaker c.with.result _ _
    (λ more kept. λ fails. kept kinds.is_leased_out
    (found_both free c.args.ids.now (kinds.brought t history c.args.client c.args.ids.now)
    (kinds.Shows c.in_ok-more.more.items kinds.is_leased_out) (kinds.Shows c.in_ok-more-2.more.items kinds.is_leased_out)
    c.in_ok-more.ensures.has (c.in_ok-more-2.ensures.kept kinds.is_leased_out)
    (λ none. c.in_ok-more-2.ensures.has (ap (list_all free) along ∙ none)) (or_parts _ _ fails).1))
    c.with.ensures.kept

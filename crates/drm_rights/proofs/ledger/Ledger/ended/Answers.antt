use Rattle.std.proofs.Common.{find, sym, subst, ◌∙◌, ap}
use Rattle.std.specs.Option.{is_some}
use Rattle.drm_rights.specs.Leases.{leases_in, ends_in, is_ended_by, LeasesRise, EndsRise}
use Rattle.drm_trails.specs.Steps.{history_of}
use Rattle.drm_rights.proofs.LeaseLemmas.{leases_rise, ends_rise, step_of, end_noted, has_ended_at}
use Rattle.drm_rights.proofs.ledger.Ledger.ended.Goals as goal

pub returns-in-Some : goal.returns-in-Some
returns-in-Some c =
    let leases = c.deref.ensures.value ∙ c.self.invariant.lent ∙ ap leases_in c.self.view_is in
    let ends = c.deref-2.ensures.value ∙ c.self.invariant.ended ∙ ap ends_in c.self.view_is in
    let step =
    ap step_of
    (sym c.in-Some.is ∙ c.first_end.ensures ∙ (λ i. find (is_ended_by (leases i) c.args.master) (ends i)))
    ∙ end_noted c.args.self.now c.args.master in
    record { step = step; ended = ap is_some step ∙ has_ended_at c.args.self.now c.args.master }

pub returns-in-None : goal.returns-in-None
returns-in-None c =
    let leases = c.deref.ensures.value ∙ c.self.invariant.lent ∙ ap leases_in c.self.view_is in
    let ends = c.deref-2.ensures.value ∙ c.self.invariant.ended ∙ ap ends_in c.self.view_is in
    let step =
    ap step_of
    (sym c.in-None.is ∙ c.first_end.ensures ∙ (λ i. find (is_ended_by (leases i) c.args.master) (ends i)))
    ∙ end_noted c.args.self.now c.args.master in
    record { step = step; ended = ap is_some step ∙ has_ended_at c.args.self.now c.args.master }

pub first_end-requires-clause-leases : goal.first_end-requires-clause-leases
first_end-requires-clause-leases c =
    subst LeasesRise (sym (c.deref.ensures.value ∙ c.self.invariant.lent))
    (leases_rise (history_of c.self.inside.trail))

pub first_end-requires-clause-ends : goal.first_end-requires-clause-ends
first_end-requires-clause-ends c =
    subst EndsRise (sym (c.deref-2.ensures.value ∙ c.self.invariant.ended)) (ends_rise (history_of c.self.inside.trail))

use Rattle.std.proofs.Common.{◌+◌, take, sym, ◌∙◌, ap, subst}
use Rattle.drm_history.specs.Holds.{Has}
use Rattle.drm_trails.specs.Steps.{history_of, key_of}
use Rattle.drm_trails.specs.declared.steps.Key.TheVariants.{Name}
use Rattle.drm_refusals.specs.Facts.{IsNamed}
use Rattle.drm_refusals.proofs.FactLemmas.{named_of, published_by}
use Rattle.drm_refusals.proofs.buffers.unnamed.Goals as goal

pub returns-clause-holds : goal.returns-clause-holds
returns-clause-holds c =
    let named = c.in-Some.named in
    let buffer = c.in-Some-object_of.buffer in
    let steps = c.steps-steps.result.now in
    let key = key_of (Name c.from.result) in
    let is = ap history_of c.steps-steps.ensures ∙ c.trail-trail.ensures in
    let has =
    subst (λ all. Has (history_of (take named.past all)) named.client named.handle buffer)
    (sym c.steps-steps.ensures) c.in-Some-object_of.ensures.object in
    let its : IsNamed c.args.ledger.now c.from.result buffer named.client (named.past + 1) = record {
      by = published_by steps c.args.ledger.now key named is c.in-Some.ensures.within c.in-Some.ensures.last;
      of = named_of steps c.args.ledger.now key named buffer is c.in-Some.ensures.last has;
    } in
    subst (λ name. IsNamed c.args.ledger.now name buffer named.client (named.past + 1)) c.from.ensures its

use Rattle.std.proofs.Common.{◌≡◌, ◌+◌, Option, Some, ℕ, length, sym, ◌∙◌, ap, subst}
use Rattle.std.specs.Prelude.{IfSome}
use Rattle.drm_trails.specs.Passing.{first_step_after}
use Rattle.drm_trails.specs.Steps.{key_of}
use Rattle.drm_refusals.specs.Withdrawals.{withdraws}
use Rattle.drm_refusals.proofs.FactLemmas.{passing_within, published_by}
use Rattle.drm_explanations.proofs.WithinLemmas.{IsStep, not_missing}
use Rattle.drm_refusals.proofs.publications.publication.Goals as goal

pub returns-in_default-withdrawn-clause-holds : goal.returns-in_default-withdrawn-clause-holds
returns-in_default-withdrawn-clause-holds c =
    let published = c.in-Some.published in
    let passes = withdraws (key_of c.args.key) published.client in (
      published_by c.steps-steps.result.now c.args.ledger.now (key_of c.args.key) published c.steps-steps.ensures
          c.in-Some.ensures.within c.in-Some.ensures.last,
      ap (first_step_after (published.past + 1) passes) (sym c.steps-steps.ensures) ∙ sym c.withdrawn.ensures
          ∙ c.in_default-withdrawn.is,
    )

pub returns-clause-holds : goal.returns-clause-holds
returns-clause-holds c =
    let published = c.in-Some.published in
    let passes = withdraws (key_of c.args.key) published.client in (
      published_by c.steps-steps.result.now c.args.ledger.now (key_of c.args.key) published c.steps-steps.ensures
          c.in-Some.ensures.within c.in-Some.ensures.last,
      ap (first_step_after (published.past + 1) passes) (sym c.steps-steps.ensures) ∙ sym c.withdrawn.ensures
          ∙ c.in-Some-withdrawn.is ∙ ap Some (sym c.in_ok-by.ensures.step),
    )

pub returns-in_err-by-clause-some : goal.returns-in_err-by-clause-some
returns-in_err-by-clause-some c =
    let after = c.in-Some.published.past + 1 in
    let passes = withdraws (key_of c.args.key) c.in-Some.published.client in
    let history = c.args.ledger.now in
    let number = c.in-Some-withdrawn.number in
    let found : first_step_after after passes history ≡ Some number =
    ap (first_step_after after passes) (sym c.steps-steps.ensures) ∙ sym c.withdrawn.ensures ∙ c.in-Some-withdrawn.is in
    let within : IsStep (length history) number =
    subst (λ (o : Option ℕ). IfSome o (IsStep (length history))) found (passing_within after passes history) in
    absurd
    (not_missing c.steps-steps.result.now history number c.steps-steps.ensures within c.in_err-by.ensures.numbers)

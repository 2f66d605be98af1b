use Rattle.std.proofs.Common.{◌∙◌, ap, sym}
use Rattle.drm_checks.specs.Expectations.{begins_with_arrow}
use Rattle.drm_checks.proofs.ArrowLemmas.{arrow_next}
use Rattle.drm_checks.proofs.expectations.first_arrow.Goals as goal

pub loop-at-preserved : goal.loop-at-preserved
loop-at-preserved c =
    c.loop-at.invariant
    ∙ arrow_next c.args.line.now c.loop-at.at c.loop-at-test.true
    (ap begins_with_arrow (sym c.split_at.ensures.back) ∙ sym c.begins_with_arrow.ensures.value ∙ c.if-begins_with_arrow.false)

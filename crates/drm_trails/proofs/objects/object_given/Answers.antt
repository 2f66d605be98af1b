use Rattle.std.proofs.Common.{◌+◌, Some, sym, ◌∙◌, ap}
use Rattle.drm_trails.specs.Objects.{object_given}
use Rattle.drm_trails.specs.Steps.{history_of, key_of, source_of}
use Rattle.drm_trails.proofs.HistoryLemmas.{length-history_of}
use Rattle.drm_trails.proofs.ObjectLemmas.{under_found, under_none}
use Rattle.drm_trails.proofs.objects.object_given.Goals as goal

pub returns-in_err-publishing-in-Transfer : goal.returns-in_err-publishing-in-Transfer
returns-in_err-publishing-in-Transfer c =
    c.from_residual.ensures
    ∙ sym
    (under_none c.args.steps.now c.args.publications.now c.requires.noted (key_of c.in-Transfer.key) c.in_err-publishing-in-Transfer.ensures.last)
    ∙ ap (λ s. object_given (history_of c.args.steps.now) (source_of s)) (sym c.in-Transfer.is)

pub returns-in-Creation : goal.returns-in-Creation
returns-in-Creation c =
    ap (λ n. Some (n + 1)) (sym (length-history_of c.args.steps.now))
    ∙ ap (λ s. object_given (history_of c.args.steps.now) (source_of s)) (sym c.in-Creation.is)

pub returns-in_ok-publishing-in-Transfer : goal.returns-in_ok-publishing-in-Transfer
returns-in_ok-publishing-in-Transfer c =
    c.object_held.ensures
    ∙ sym
    (under_found c.args.steps.now c.args.publications.now c.requires.noted (key_of c.in-Transfer.key) c.in_ok-publishing-in-Transfer.publishing c.in_ok-publishing-in-Transfer.ensures.last)
    ∙ ap (λ s. object_given (history_of c.args.steps.now) (source_of s)) (sym c.in-Transfer.is)

use Rattle.std.proofs.Common.{◌∙◌}
use Rattle.std.specs.Prelude.{drop}
use Rattle.std.proofs.lemmas.Result.{err_from_is_err_and}
use Rattle.drm_script.specs.declared.limits_line.Limit.TheVariants as limits
use Rattle.drm_script.specs.Words.{words_of}
use Rattle.drm_script.specs.Faults.{Place, limit_places}
use Rattle.drm_script.proofs.LimitsLaws.{all_in_range}
use Rattle.drm_script.proofs.FaultLemmas.{misfit_here, passed}
use Rattle.drm_script.proofs.limits_line.limits_of.Goals as goal

pub returns-in_err-names-clause-fault : goal.returns-in_err-names-clause-fault
returns-in_err-names-clause-fault c =
    let p = err_from_is_err_and c.from_residual-in_err-names.result c.from_residual-in_err-names.ensures.1 in
    rw (p.1, p.2)
    (passed (Place.limit limits.Clients) (drop 1 limit_places) (words_of c.args.text.now) (words_of c.in_ok-clients.rest.now) c.in_ok-clients.ensures.passed
    ∙ passed (Place.limit limits.Handles) (drop 2 limit_places) (words_of c.in_ok-clients.rest.now)
    (words_of c.in_ok-handles.rest.now) c.in_ok-handles.ensures.passed
    ∙ misfit_here (Place.limit limits.Names) (drop 3 limit_places) (words_of c.in_ok-handles.rest.now) _ _ c.in_err-names.ensures.fault)

pub returns-in_err-tokens-clause-fault : goal.returns-in_err-tokens-clause-fault
returns-in_err-tokens-clause-fault c =
    let p = err_from_is_err_and c.from_residual-in_err-tokens.result c.from_residual-in_err-tokens.ensures.1 in
    rw (p.1, p.2)
    (passed (Place.limit limits.Clients) (drop 1 limit_places) (words_of c.args.text.now) (words_of c.in_ok-clients.rest.now) c.in_ok-clients.ensures.passed
    ∙ passed (Place.limit limits.Handles) (drop 2 limit_places) (words_of c.in_ok-clients.rest.now)
    (words_of c.in_ok-handles.rest.now) c.in_ok-handles.ensures.passed
    ∙ passed (Place.limit limits.Names) (drop 3 limit_places) (words_of c.in_ok-handles.rest.now)
    (words_of c.in_ok-names.rest.now) c.in_ok-names.ensures.passed
    ∙ misfit_here (Place.limit limits.Tokens) (drop 4 limit_places) (words_of c.in_ok-names.rest.now) _ _ c.in_err-tokens.ensures.fault)

pub returns-in_err-objects-clause-fault : goal.returns-in_err-objects-clause-fault
returns-in_err-objects-clause-fault c =
    let p = err_from_is_err_and c.from_residual-in_err-objects.result c.from_residual-in_err-objects.ensures.1 in
    rw (p.1, p.2)
    (passed (Place.limit limits.Clients) (drop 1 limit_places) (words_of c.args.text.now) (words_of c.in_ok-clients.rest.now) c.in_ok-clients.ensures.passed
    ∙ passed (Place.limit limits.Handles) (drop 2 limit_places) (words_of c.in_ok-clients.rest.now)
    (words_of c.in_ok-handles.rest.now) c.in_ok-handles.ensures.passed
    ∙ passed (Place.limit limits.Names) (drop 3 limit_places) (words_of c.in_ok-handles.rest.now)
    (words_of c.in_ok-names.rest.now) c.in_ok-names.ensures.passed
    ∙ passed (Place.limit limits.Tokens) (drop 4 limit_places) (words_of c.in_ok-names.rest.now)
    (words_of c.in_ok-tokens.rest.now) c.in_ok-tokens.ensures.passed
    ∙ misfit_here (Place.limit limits.Objects) (drop 5 limit_places) (words_of c.in_ok-tokens.rest.now) _ _ c.in_err-objects.ensures.fault)

pub returns-in_err-framebuffers-clause-fault : goal.returns-in_err-framebuffers-clause-fault
returns-in_err-framebuffers-clause-fault c =
    let p =
    err_from_is_err_and c.from_residual-in_err-framebuffers.result c.from_residual-in_err-framebuffers.ensures.1 in
    rw (p.1, p.2)
    (passed (Place.limit limits.Clients) (drop 1 limit_places) (words_of c.args.text.now) (words_of c.in_ok-clients.rest.now) c.in_ok-clients.ensures.passed
    ∙ passed (Place.limit limits.Handles) (drop 2 limit_places) (words_of c.in_ok-clients.rest.now)
    (words_of c.in_ok-handles.rest.now) c.in_ok-handles.ensures.passed
    ∙ passed (Place.limit limits.Names) (drop 3 limit_places) (words_of c.in_ok-handles.rest.now)
    (words_of c.in_ok-names.rest.now) c.in_ok-names.ensures.passed
    ∙ passed (Place.limit limits.Tokens) (drop 4 limit_places) (words_of c.in_ok-names.rest.now)
    (words_of c.in_ok-tokens.rest.now) c.in_ok-tokens.ensures.passed
    ∙ passed (Place.limit limits.Objects) (drop 5 limit_places) (words_of c.in_ok-tokens.rest.now)
    (words_of c.in_ok-objects.rest.now) c.in_ok-objects.ensures.passed
    ∙ misfit_here (Place.limit limits.Framebuffers) (drop 6 limit_places) (words_of c.in_ok-objects.rest.now) _ _ c.in_err-framebuffers.ensures.fault)

pub returns-in_err-lessees-clause-fault : goal.returns-in_err-lessees-clause-fault
returns-in_err-lessees-clause-fault c =
    let p = err_from_is_err_and c.from_residual-in_err-lessees.result c.from_residual-in_err-lessees.ensures.1 in
    rw (p.1, p.2)
    (passed (Place.limit limits.Clients) (drop 1 limit_places) (words_of c.args.text.now) (words_of c.in_ok-clients.rest.now) c.in_ok-clients.ensures.passed
    ∙ passed (Place.limit limits.Handles) (drop 2 limit_places) (words_of c.in_ok-clients.rest.now)
    (words_of c.in_ok-handles.rest.now) c.in_ok-handles.ensures.passed
    ∙ passed (Place.limit limits.Names) (drop 3 limit_places) (words_of c.in_ok-handles.rest.now)
    (words_of c.in_ok-names.rest.now) c.in_ok-names.ensures.passed
    ∙ passed (Place.limit limits.Tokens) (drop 4 limit_places) (words_of c.in_ok-names.rest.now)
    (words_of c.in_ok-tokens.rest.now) c.in_ok-tokens.ensures.passed
    ∙ passed (Place.limit limits.Objects) (drop 5 limit_places) (words_of c.in_ok-tokens.rest.now)
    (words_of c.in_ok-objects.rest.now) c.in_ok-objects.ensures.passed
    ∙ passed (Place.limit limits.Framebuffers) (drop 6 limit_places) (words_of c.in_ok-objects.rest.now)
    (words_of c.in_ok-framebuffers.rest.now) c.in_ok-framebuffers.ensures.passed
    ∙ misfit_here (Place.limit limits.Lessees) (drop 7 limit_places) (words_of c.in_ok-framebuffers.rest.now) _ _ c.in_err-lessees.ensures.fault)

pub returns-in_err-journal-clause-fault : goal.returns-in_err-journal-clause-fault
returns-in_err-journal-clause-fault c =
    let p = err_from_is_err_and c.from_residual-in_err-journal.result c.from_residual-in_err-journal.ensures.1 in
    rw (p.1, p.2)
    (passed (Place.limit limits.Clients) (drop 1 limit_places) (words_of c.args.text.now) (words_of c.in_ok-clients.rest.now) c.in_ok-clients.ensures.passed
    ∙ passed (Place.limit limits.Handles) (drop 2 limit_places) (words_of c.in_ok-clients.rest.now)
    (words_of c.in_ok-handles.rest.now) c.in_ok-handles.ensures.passed
    ∙ passed (Place.limit limits.Names) (drop 3 limit_places) (words_of c.in_ok-handles.rest.now)
    (words_of c.in_ok-names.rest.now) c.in_ok-names.ensures.passed
    ∙ passed (Place.limit limits.Tokens) (drop 4 limit_places) (words_of c.in_ok-names.rest.now)
    (words_of c.in_ok-tokens.rest.now) c.in_ok-tokens.ensures.passed
    ∙ passed (Place.limit limits.Objects) (drop 5 limit_places) (words_of c.in_ok-tokens.rest.now)
    (words_of c.in_ok-objects.rest.now) c.in_ok-objects.ensures.passed
    ∙ passed (Place.limit limits.Framebuffers) (drop 6 limit_places) (words_of c.in_ok-objects.rest.now)
    (words_of c.in_ok-framebuffers.rest.now) c.in_ok-framebuffers.ensures.passed
    ∙ passed (Place.limit limits.Lessees) (drop 7 limit_places) (words_of c.in_ok-framebuffers.rest.now)
    (words_of c.in_ok-lessees.rest.now) c.in_ok-lessees.ensures.passed
    ∙ misfit_here (Place.limit limits.Journal) (drop 8 limit_places) (words_of c.in_ok-lessees.rest.now) _ _ c.in_err-journal.ensures.fault)

pub returns-in_err-end_of-clause-fault : goal.returns-in_err-end_of-clause-fault
returns-in_err-end_of-clause-fault c =
    let p = err_from_is_err_and c.from_residual-in_err-end_of.result c.from_residual-in_err-end_of.ensures.1 in
    rw (p.1, p.2)
    (passed (Place.limit limits.Clients) (drop 1 limit_places) (words_of c.args.text.now) (words_of c.in_ok-clients.rest.now) c.in_ok-clients.ensures.passed
    ∙ passed (Place.limit limits.Handles) (drop 2 limit_places) (words_of c.in_ok-clients.rest.now)
    (words_of c.in_ok-handles.rest.now) c.in_ok-handles.ensures.passed
    ∙ passed (Place.limit limits.Names) (drop 3 limit_places) (words_of c.in_ok-handles.rest.now)
    (words_of c.in_ok-names.rest.now) c.in_ok-names.ensures.passed
    ∙ passed (Place.limit limits.Tokens) (drop 4 limit_places) (words_of c.in_ok-names.rest.now)
    (words_of c.in_ok-tokens.rest.now) c.in_ok-tokens.ensures.passed
    ∙ passed (Place.limit limits.Objects) (drop 5 limit_places) (words_of c.in_ok-tokens.rest.now)
    (words_of c.in_ok-objects.rest.now) c.in_ok-objects.ensures.passed
    ∙ passed (Place.limit limits.Framebuffers) (drop 6 limit_places) (words_of c.in_ok-objects.rest.now)
    (words_of c.in_ok-framebuffers.rest.now) c.in_ok-framebuffers.ensures.passed
    ∙ passed (Place.limit limits.Lessees) (drop 7 limit_places) (words_of c.in_ok-framebuffers.rest.now)
    (words_of c.in_ok-lessees.rest.now) c.in_ok-lessees.ensures.passed
    ∙ passed (Place.limit limits.Journal) (drop 8 limit_places) (words_of c.in_ok-lessees.rest.now)
    (words_of c.in_ok-journal.rest.now) c.in_ok-journal.ensures.passed
    ∙ c.in_err-end_of.ensures.fault)

pub returns-clause-in_range : goal.returns-clause-in_range
returns-clause-in_range c = all_in_range _ (record {
  clients = c.in_ok-clients.ensures.in_range;
  handles = c.in_ok-handles.ensures.in_range;
  names = c.in_ok-names.ensures.in_range;
  tokens = c.in_ok-tokens.ensures.in_range;
  objects = c.in_ok-objects.ensures.in_range;
  framebuffers = c.in_ok-framebuffers.ensures.in_range;
  lessees = c.in_ok-lessees.ensures.in_range;
  journal = c.in_ok-journal.ensures.in_range;
})

use Rattle.std.proofs.Common.{◌≡◌, true, false, not, [], ◌∷◌, None, refl, sym, ap, ◌∙◌, arith, inl, subst, length-append}
use Rattle.std.proofs.lemmas.Result.{err_from_is_err_and}
use Rattle.drm_table.specs.declared.answers.Answer.TheVariants.{Opened}
use Rattle.drm_table.specs.declared.events.Event.TheVariants.{Open}
use Rattle.drm_table.specs.declared.events.Opening.TheVariants.{Render}
use Rattle.drm_table.specs.declared.rules.Rule.TheVariants.{Full}
use Rattle.drm_files.specs.declared.rows.FileFlags.{FileFlags}
use Rattle.drm_files.specs.Files.{new_flags}
use Rattle.drm_model.specs.ClientCapabilities.{opening_capabilities}
use Rattle.drm_model.specs.Rows.{Rows, ClientRow, has_client_room, step_number}
use Rattle.drm_model.specs.Verdict.{verdict}
use Rattle.drm_model.specs.Clients.{opening_checks, opened}
use Rattle.drm_model.specs.Change.{changed}
use Rattle.drm_model.specs.Reply.{answer_of}
use Rattle.drm_state.specs.Refinement.{Refines, Represents}
use Rattle.drm_client_calls.proofs.Opened.{rendered_represents, rendered_invariants}
use Rattle.drm_state.proofs.Refinements.{denied, carried_on, refused, opening_verdict, client_room}
use Rattle.drm_client_calls.proofs.openings.open_render.Goals as goal

abbrev row : Rows → ClientRow
row w =
    record
    { client = step_number w; render = true; root = false; authenticated = false; once_master = false; is_master = false; master = None; capabilities = opening_capabilities true }

abbrev flags : FileFlags
flags = new_flags true false true

accepted : (w : Rows) → has_client_room w ≡ true → verdict w (Open Render) ≡ None
unfolding opening_checks
accepted w room = opening_verdict w Render ∙ rw room refl

pub returns-then-is_full-clause-refines : goal.returns-then-is_full-clause-refines
unfolding Refines opening_checks
returns-then-is_full-clause-refines c = rw c.set_denied.ensures.denied (λ w s.
    let full = client_room c.args.state.now w s.rows ∙ ap not (sym c.is_full.ensures.full ∙ c.if-is_full.true) in
    denied c.args.state.now w (Open Render) Full (opening_verdict w Render ∙ rw full refl) s.rows)

pub returns-in_err-open_file-clause-refines : goal.returns-in_err-open_file-clause-refines
unfolding Refines changed opened
returns-in_err-open_file-clause-refines c = λ w s.
    let room = client_room c.args.state.now w s.rows ∙ ap not (sym c.is_full.ensures.full ∙ c.if-is_full.false) in
    let p = err_from_is_err_and c.from_residual.result c.from_residual.ensures.1 in
    rw p.1 (refused (record c.args.state.now { files = c.open_file.new.files }) w (Open Render) p.0 (accepted w room) (inl (omega (arith, length-append w.clients (row w ∷ []))))
    (subst (λ fs. Represents (record c.args.state.now { files = fs }) w) (sym c.in_err-open_file.ensures.err) s.rows))

pub returns-clause-invariants : goal.returns-clause-invariants
returns-clause-invariants c =
    rendered_invariants c.args.state.now c.open_file.new.files c.args.step_number flags refl c.requires.invariants
    c.in_ok-open_file.ensures.ok

pub returns-clause-refines : goal.returns-clause-refines
unfolding Refines changed opened answer_of
returns-clause-refines c = λ w s.
    let room = client_room c.args.state.now w s.rows ∙ ap not (sym c.is_full.ensures.full ∙ c.if-is_full.false) in
    carried_on (record c.args.state.now { files = c.open_file.new.files }) w (Open Render) (Opened c.args.step_number)
    (returns-clause-invariants c) (accepted w room) (ap Opened (sym s.step_number_is))
    (rendered_represents c.args.state.now w c.open_file.new.files c.args.step_number flags (row w) c.requires.invariants c.requires.later c.in_ok-open_file.ensures.ok (ap (λ b. record (row w) { client = b }) (sym s.step_number_is)) s.rows)

use Rattle.std.proofs.Common.{◌≡◌, ◌||◌, None, refl, sym, ap, ◌∙◌}
use Rattle.std.specs.Option.{is_some, option_map}
use Rattle.std.proofs.lemmas.Result.{err_from_is_err_and}
use Rattle.drm_table.specs.declared.calls.Call.TheVariants.{GetFb}
use Rattle.drm_table.specs.declared.events.Event.TheVariants.{Ask}
use Rattle.drm_table.specs.declared.rules.Rule.TheVariants.{NoFb, Full}
use Rattle.drm_modes.specs.declared.rows.Fb.{Fb}
use Rattle.drm_table.specs.declared.permits.Standing.{Standing}
use Rattle.drm_model.specs.Rows.{Rows}
use Rattle.drm_model.specs.Masters.{credentials_in}
use Rattle.drm_model.specs.Modes.{framebuffer_object, gives_handle}
use Rattle.drm_model.specs.Calls.{meaning}
use Rattle.drm_model.specs.Change.{changed}
use Rattle.drm_model.specs.Reply.{answer_of}
use Rattle.drm_state.specs.declared.state.State.{State}
use Rattle.drm_state.specs.declared.caller.PrimaryCaller.{PrimaryCaller}
use Rattle.drm_state.specs.Callers.{IsPrimaryCaller, as_caller}
use Rattle.drm_state.specs.Parts.{step_number_at}
use Rattle.drm_state.specs.Refinement.{RefinesCall, AddsHandle, Represents}
use Rattle.drm_state.proofs.Callers.{caller_open}
use Rattle.drm_state.proofs.Lookups.{client_row_is, credentials_is}
use Rattle.drm_state.proofs.Refinements.{denied, carried, carried_on, refused, call_verdict}
use Rattle.drm_state.proofs.Framing.{framebuffer_is, framebuffer_told, framebuffer_object_is, framebuffer_known}
use Rattle.drm_state.proofs.Added.{added_none, added_some, longer}
use Rattle.drm_mode_calls.proofs.framebuffers.get_fb.Goals as goal

-- whether a caller is reported with a handle
given : (s : State) (w : Rows) (k : PrimaryCaller) → IsPrimaryCaller s k → Represents s w
    → gives_handle w k.client ≡ (k.current || k.flags.root)
given s w k is h =
    ap (λ (t : Standing). t.current || t.root)
    (ap (credentials_in w) (client_row_is s w h k.client k.flags is.flags) ∙ credentials_is s w h k.client k.flags)
    ∙ ap (λ b. b || k.flags.root) (sym is.current)

pub new_handle-requires-clause-open_client : goal.new_handle-requires-clause-open_client
new_handle-requires-clause-open_client c = caller_open c.args.state.now (as_caller c.args.caller) c.requires.caller

pub returns-in_default-clause-refines : goal.returns-in_default-clause-refines
unfolding RefinesCall meaning
returns-in_default-clause-refines c = rw c.set_denied.ensures.denied (λ w r a.
    let s = c.args.state.now in
    let none =
    framebuffer_is s w c.requires.precondition.invariants r.rows c.args.framebuffer ∙ sym c.fb.ensures.there
    ∙ ap is_some c.in_default.is in
    denied s w (Ask c.args.caller.client (GetFb c.args.framebuffer)) NoFb (call_verdict w c.args.caller.client (GetFb c.args.framebuffer) a ∙ rw none refl) r.rows)

pub returns-then-not-gives_handle-clause-refines : goal.returns-then-not-gives_handle-clause-refines
unfolding RefinesCall meaning changed answer_of
returns-then-not-gives_handle-clause-refines c = λ w r a.
    let s = c.args.state.now in
    let t = c.requires.precondition.invariants in
    let there = framebuffer_is s w t r.rows c.args.framebuffer ∙ sym c.fb.ensures.there ∙ ap is_some c.in-Some.is in
    let gives =
    given s w c.args.caller c.requires.caller r.rows ∙ sym c.gives_handle.ensures ∙ c.if-not-gives_handle.true in
    let told =
    framebuffer_told s w t r.rows c.args.framebuffer c.in-Some.row (sym c.fb.ensures.found ∙ c.in-Some.is) 0 in
    carried_on s w (Ask c.args.caller.client (GetFb c.args.framebuffer)) _ t
    (call_verdict w c.args.caller.client (GetFb c.args.framebuffer) a ∙ rw (there, gives) refl)
    (c.framebuffer_answer.ensures ∙ rw gives (sym told)) (rw gives r.rows)

pub new_handle-requires-clause-known : goal.new_handle-requires-clause-known
new_handle-requires-clause-known c =
    framebuffer_known c.args.state.now c.args.framebuffer c.in-Some.row.object
    (sym (ap (option_map (λ (x : Fb). x.object)) (sym c.fb.ensures.found ∙ c.in-Some.is)))

pub returns-in_err-handle-clause-refines : goal.returns-in_err-handle-clause-refines
unfolding RefinesCall AddsHandle meaning changed
returns-in_err-handle-clause-refines c = λ w r a.
    let s = c.args.state.now in
    let p = err_from_is_err_and c.from_residual.result c.from_residual.ensures.1 in
    let there =
    framebuffer_is s w c.requires.precondition.invariants r.rows c.args.framebuffer ∙ sym c.fb.ensures.there
    ∙ ap is_some c.in-Some.is in
    let gives =
    given s w c.args.caller c.requires.caller r.rows ∙ sym c.gives_handle.ensures ∙ c.if-not-gives_handle.false in
    let came = c.in_err-handle.ensures.adds w r.rows in
    rw p.1 (refused c.new_handle.new.state w (Ask c.args.caller.client (GetFb c.args.framebuffer)) p.0 (call_verdict w c.args.caller.client (GetFb c.args.framebuffer) a ∙ rw (there, gives, came.0) refl)
    (rw gives (longer w c.args.caller.client (framebuffer_object w c.args.framebuffer) None)) came.1)

pub returns-in_default-2-clause-refines : goal.returns-in_default-2-clause-refines
unfolding RefinesCall AddsHandle meaning
returns-in_default-2-clause-refines c = rw c.set_denied-in_default-2.ensures.denied (λ w r a.
    let s = c.args.state.now in
    let there =
    framebuffer_is s w c.requires.precondition.invariants r.rows c.args.framebuffer ∙ sym c.fb.ensures.there
    ∙ ap is_some c.in-Some.is in
    let gives =
    given s w c.args.caller c.requires.caller r.rows ∙ sym c.gives_handle.ensures ∙ c.if-not-gives_handle.false in
    let came =
    added_none w c.args.caller.client (step_number_at s.objects.objects c.in-Some.row.object) None
    c.new_handle.new.state c.in_ok-handle.field-0 c.in_default-2.is (c.in_ok-handle.ensures.adds w r.rows) in
    denied c.new_handle.new.state w (Ask c.args.caller.client (GetFb c.args.framebuffer)) Full (call_verdict w c.args.caller.client (GetFb c.args.framebuffer) a ∙ rw (there, gives, came.0) refl) came.1)

pub returns-clause-refines : goal.returns-clause-refines
unfolding RefinesCall AddsHandle meaning changed answer_of
returns-clause-refines c = λ w r a.
    let s = c.args.state.now in
    let t = c.requires.precondition.invariants in
    let found = sym c.fb.ensures.found ∙ c.in-Some.is in
    let there = framebuffer_is s w t r.rows c.args.framebuffer ∙ sym c.fb.ensures.there ∙ ap is_some c.in-Some.is in
    let gives =
    given s w c.args.caller c.requires.caller r.rows ∙ sym c.gives_handle.ensures ∙ c.if-not-gives_handle.false in
    let came =
    added_some w c.args.caller.client (step_number_at s.objects.objects c.in-Some.row.object) None
    c.new_handle.new.state c.in_ok-handle.field-0 c.in-Some-2.handle c.in-Some-2.is
    (c.in_ok-handle.ensures.adds w r.rows) in
    let object = framebuffer_object_is s w t r.rows c.args.framebuffer c.in-Some.row found in
    let told = framebuffer_told s w t r.rows c.args.framebuffer c.in-Some.row found c.in-Some-2.handle in
    carried c.new_handle.new.state w (Ask c.args.caller.client (GetFb c.args.framebuffer)) _
    (call_verdict w c.args.caller.client (GetFb c.args.framebuffer) a ∙ rw (there, gives, came.0) refl)
    (c.framebuffer_answer-2.ensures ∙ rw (gives, came.0) (sym told)) (rw (gives, object) came.1)

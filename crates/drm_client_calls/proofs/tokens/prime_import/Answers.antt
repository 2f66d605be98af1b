use Rattle.std.proofs.Common.{Some, refl, sym, ◌∙◌}
use Rattle.std.proofs.lemmas.Result.{err_from_is_err_and}
use Rattle.drm_table.specs.declared.calls.Call.TheVariants.{PrimeFdToHandle}
use Rattle.drm_table.specs.declared.events.Event.TheVariants.{Ask}
use Rattle.drm_table.specs.declared.rules.Rule.TheVariants.{NoToken, Full}
use Rattle.drm_model.specs.Rows.{step_number}
use Rattle.drm_model.specs.Calls.{meaning}
use Rattle.drm_model.specs.Change.{changed}
use Rattle.drm_model.specs.Reply.{answer_of}
use Rattle.drm_state.specs.Parts.{step_number_at}
use Rattle.drm_state.specs.Refinement.{RefinesCall, AddsHandle}
use Rattle.drm_state.proofs.Represented.{objects_counted}
use Rattle.drm_state.proofs.Refinements.{denied, carried, carried_on, refused, call_verdict}
use Rattle.drm_state.proofs.Contents.{size_found}
use Rattle.drm_state.proofs.SharedLookups.{token_there, no_token, token_known, prime_found}
use Rattle.drm_state.proofs.Added.{added_none, added_some, longer}
use Rattle.drm_client_calls.proofs.tokens.prime_import.Goals as goal

pub returns-in_default-clause-refines : goal.returns-in_default-clause-refines
unfolding RefinesCall meaning
returns-in_default-clause-refines c = rw c.set_denied.ensures.denied (λ w r a.
    let none =
    no_token c.args.state.now w r.rows c.args.token c.lookup.ensures.tokens
    (sym c.in_default.is ∙ c.lookup.ensures.object) in
    denied c.args.state.now w (Ask c.args.client (PrimeFdToHandle c.args.token)) NoToken (call_verdict w c.args.client (PrimeFdToHandle c.args.token) a ∙ rw none refl) r.rows)

pub new_handle-requires-clause-known : goal.new_handle-requires-clause-known
new_handle-requires-clause-known c =
    token_known c.args.state.now c.args.token c.in-Some.object (sym c.in-Some.is ∙ c.lookup.ensures.object)

pub size-size-requires : goal.size-size-requires
size-size-requires c =
    (objects_counted c.args.state.now c.requires.precondition.invariants).there c.in-Some.object
    (token_known c.args.state.now c.args.token c.in-Some.object (sym c.in-Some.is ∙ c.lookup.ensures.object))

pub returns-in-Some-prime_handle-clause-refines : goal.returns-in-Some-prime_handle-clause-refines
unfolding RefinesCall changed meaning answer_of
returns-in-Some-prime_handle-clause-refines c = rw c.set_buffer.ensures.buffer (λ w r a.
    let s = c.args.state.now in
    let found = sym c.in-Some.is ∙ c.lookup.ensures.object in
    let known = token_known s c.args.token c.in-Some.object found in
    let there = token_there s w r.rows c.args.token c.in-Some.object c.lookup.ensures.tokens found in
    let had =
    prime_found s w c.args.client c.in-Some.object c.requires.precondition.invariants r.rows known
    ∙ sym c.prime_handle.ensures.handle ∙ c.in-Some-prime_handle.is in
    let size =
    size_found s w c.in-Some.object c.size-size.result c.requires.precondition.invariants known r.rows
    c.size-size.ensures in
    carried_on s w (Ask c.args.client (PrimeFdToHandle c.args.token)) _ c.requires.precondition.invariants
    (call_verdict w c.args.client (PrimeFdToHandle c.args.token) a ∙ rw (there, had) refl) (rw (there, had, size) refl)
    (rw (there, had) r.rows))

pub returns-in_err-fresh-clause-refines : goal.returns-in_err-fresh-clause-refines
unfolding RefinesCall AddsHandle changed meaning
returns-in_err-fresh-clause-refines c = λ w r a.
    let s = c.args.state.now in
    let p = err_from_is_err_and c.from_residual.result c.from_residual.ensures.1 in
    let found = sym c.in-Some.is ∙ c.lookup.ensures.object in
    let there = token_there s w r.rows c.args.token c.in-Some.object c.lookup.ensures.tokens found in
    let had =
    prime_found s w c.args.client c.in-Some.object c.requires.precondition.invariants r.rows
    (token_known s c.args.token c.in-Some.object found)
    ∙ sym c.prime_handle.ensures.handle ∙ c.in_default-prime_handle.is in
    let came = c.in_err-fresh.ensures.adds w r.rows in
    rw p.1 (refused c.new_handle.new.state w (Ask c.args.client (PrimeFdToHandle c.args.token)) p.0 (call_verdict w c.args.client (PrimeFdToHandle c.args.token) a ∙ rw (there, had, came.0) refl)
    (rw (there, had) (longer w c.args.client (step_number_at s.objects.objects c.in-Some.object) (Some (step_number w)))) came.1)

pub returns-in_default-2-clause-refines : goal.returns-in_default-2-clause-refines
unfolding RefinesCall AddsHandle meaning
returns-in_default-2-clause-refines c = rw c.set_denied-in_default-2.ensures.denied (λ w r a.
    let s = c.args.state.now in
    let found = sym c.in-Some.is ∙ c.lookup.ensures.object in
    let there = token_there s w r.rows c.args.token c.in-Some.object c.lookup.ensures.tokens found in
    let had =
    prime_found s w c.args.client c.in-Some.object c.requires.precondition.invariants r.rows
    (token_known s c.args.token c.in-Some.object found)
    ∙ sym c.prime_handle.ensures.handle ∙ c.in_default-prime_handle.is in
    let came =
    added_none w c.args.client (step_number_at s.objects.objects c.in-Some.object) (Some c.args.step_number)
    c.new_handle.new.state c.in_ok-fresh.field-0 c.in_default-2.is (c.in_ok-fresh.ensures.adds w r.rows) in
    denied c.new_handle.new.state w (Ask c.args.client (PrimeFdToHandle c.args.token)) Full (call_verdict w c.args.client (PrimeFdToHandle c.args.token) a ∙ rw (there, had, came.0) refl) came.1)

pub returns-clause-refines : goal.returns-clause-refines
unfolding RefinesCall AddsHandle changed meaning answer_of
returns-clause-refines c = rw c.set_buffer-2.ensures.buffer (λ w r a.
    let s = c.args.state.now in
    let found = sym c.in-Some.is ∙ c.lookup.ensures.object in
    let known = token_known s c.args.token c.in-Some.object found in
    let there = token_there s w r.rows c.args.token c.in-Some.object c.lookup.ensures.tokens found in
    let had =
    prime_found s w c.args.client c.in-Some.object c.requires.precondition.invariants r.rows known
    ∙ sym c.prime_handle.ensures.handle ∙ c.in_default-prime_handle.is in
    let came =
    added_some w c.args.client (step_number_at s.objects.objects c.in-Some.object) (Some c.args.step_number)
    c.new_handle.new.state c.in_ok-fresh.field-0 c.in-Some-2.fresh c.in-Some-2.is
    (c.in_ok-fresh.ensures.adds w r.rows) in
    let size =
    size_found s w c.in-Some.object c.size-size.result c.requires.precondition.invariants known r.rows
    c.size-size.ensures in
    carried c.new_handle.new.state w (Ask c.args.client (PrimeFdToHandle c.args.token)) _
    (call_verdict w c.args.client (PrimeFdToHandle c.args.token) a ∙ rw (there, had, came.0) refl)
    (rw (there, had, came.0, size) refl)
    (rw (there, had, r.step_number_is) came.1))

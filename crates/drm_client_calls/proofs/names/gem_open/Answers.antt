use Rattle.std.proofs.Common.{None, refl, sym, ◌∙◌}
use Rattle.std.proofs.lemmas.Result.{err_from_is_err_and}
use Rattle.drm_table.specs.declared.calls.Call.TheVariants.{GemOpen}
use Rattle.drm_table.specs.declared.events.Event.TheVariants.{Ask}
use Rattle.drm_table.specs.declared.rules.Rule.TheVariants.{NoName, Full}
use Rattle.drm_model.specs.Calls.{meaning}
use Rattle.drm_model.specs.Change.{changed}
use Rattle.drm_model.specs.Reply.{answer_of}
use Rattle.drm_state.specs.Parts.{step_number_at}
use Rattle.drm_state.specs.Refinement.{RefinesCall, AddsHandle}
use Rattle.drm_state.proofs.Represented.{objects_counted}
use Rattle.drm_state.proofs.Refinements.{denied, carried, refused, call_verdict}
use Rattle.drm_state.proofs.Contents.{size_found}
use Rattle.drm_state.proofs.SharedLookups.{name_there, no_name, name_known}
use Rattle.drm_state.proofs.Added.{added_none, added_some, longer}
use Rattle.drm_client_calls.proofs.names.gem_open.Goals as goal

pub returns-in_default-clause-refines : goal.returns-in_default-clause-refines
unfolding RefinesCall meaning
returns-in_default-clause-refines c = rw c.set_denied.ensures.denied (λ w r a.
    let none =
    no_name c.args.state.now w r.rows c.args.name c.lookup.ensures.names
    (sym c.in_default.is ∙ c.lookup.ensures.object) in
    denied c.args.state.now w (Ask c.args.client (GemOpen c.args.name)) NoName (call_verdict w c.args.client (GemOpen c.args.name) a ∙ rw none refl) r.rows)

pub new_handle-requires-clause-known : goal.new_handle-requires-clause-known
new_handle-requires-clause-known c =
    name_known c.args.state.now c.requires.precondition.invariants c.args.name c.in-Some.object
    (sym c.in-Some.is ∙ c.lookup.ensures.object)

pub size-size-requires : goal.size-size-requires
size-size-requires c =
    (objects_counted c.args.state.now c.requires.precondition.invariants).there c.in-Some.object
    (name_known c.args.state.now c.requires.precondition.invariants c.args.name c.in-Some.object (sym c.in-Some.is ∙ c.lookup.ensures.object))

pub returns-in_err-handle-clause-refines : goal.returns-in_err-handle-clause-refines
unfolding RefinesCall AddsHandle changed meaning
returns-in_err-handle-clause-refines c = λ w r a.
    let p = err_from_is_err_and c.from_residual.result c.from_residual.ensures.1 in
    let there =
    name_there c.args.state.now w r.rows c.args.name c.in-Some.object c.lookup.ensures.names
    (sym c.in-Some.is ∙ c.lookup.ensures.object) in
    let came = c.in_err-handle.ensures.adds w r.rows in
    rw p.1 (refused c.new_handle.new.state w (Ask c.args.client (GemOpen c.args.name)) p.0 (call_verdict w c.args.client (GemOpen c.args.name) a ∙ rw (there, came.0) refl)
    (rw there (longer w c.args.client (step_number_at c.args.state.now.objects.objects c.in-Some.object) None)) came.1)

pub returns-in_default-2-clause-refines : goal.returns-in_default-2-clause-refines
unfolding RefinesCall AddsHandle meaning
returns-in_default-2-clause-refines c = rw c.set_denied-in_default-2.ensures.denied (λ w r a.
    let there =
    name_there c.args.state.now w r.rows c.args.name c.in-Some.object c.lookup.ensures.names
    (sym c.in-Some.is ∙ c.lookup.ensures.object) in
    let came =
    added_none w c.args.client (step_number_at c.args.state.now.objects.objects c.in-Some.object) None
    c.new_handle.new.state c.in_ok-handle.field-0 c.in_default-2.is (c.in_ok-handle.ensures.adds w r.rows) in
    denied c.new_handle.new.state w (Ask c.args.client (GemOpen c.args.name)) Full (call_verdict w c.args.client (GemOpen c.args.name) a ∙ rw (there, came.0) refl) came.1)

pub returns-clause-refines : goal.returns-clause-refines
unfolding RefinesCall AddsHandle changed meaning answer_of
returns-clause-refines c = rw c.set_buffer.ensures.buffer (λ w r a.
    let s = c.args.state.now in
    let found = sym c.in-Some.is ∙ c.lookup.ensures.object in
    let there = name_there s w r.rows c.args.name c.in-Some.object c.lookup.ensures.names found in
    let came =
    added_some w c.args.client (step_number_at s.objects.objects c.in-Some.object) None c.new_handle.new.state
    c.in_ok-handle.field-0 c.in-Some-2.handle c.in-Some-2.is (c.in_ok-handle.ensures.adds w r.rows) in
    let size =
    size_found s w c.in-Some.object c.size-size.result c.requires.precondition.invariants
    (name_known s c.requires.precondition.invariants c.args.name c.in-Some.object found) r.rows c.size-size.ensures
    in
    carried c.new_handle.new.state w (Ask c.args.client (GemOpen c.args.name)) _
    (call_verdict w c.args.client (GemOpen c.args.name) a ∙ rw (there, came.0) refl) (rw (there, came.0, size) refl)
    (rw there came.1))

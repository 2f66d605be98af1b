use Rattle.std.proofs.Common.{◌≡◌, ℕ, true, false, Some, None, refl, sym, ◌∙◌}
use Rattle.std.proofs.lemmas.Result.{err_from_is_err_and}
use Rattle.drm_table.specs.declared.calls.Call.TheVariants.{BufCreate}
use Rattle.drm_table.specs.declared.events.Event.TheVariants.{Ask}
use Rattle.drm_table.specs.declared.rules.Rule.TheVariants.{BadSize, Full}
use Rattle.drm_table.specs.Permit.{first_failing}
use Rattle.drm_model.specs.Rows.{Rows}
use Rattle.drm_model.specs.Buffers.{is_buffer_size, has_buffer_room, buffer_size}
use Rattle.drm_model.specs.Calls.{meaning}
use Rattle.drm_model.specs.Verdict.{verdict, admission_checks}
use Rattle.drm_model.specs.Change.{changed}
use Rattle.drm_model.specs.Reply.{answer_of}
use Rattle.drm_state.specs.Refinement.{RefinesCall, MakesBuffer}
use Rattle.drm_state.proofs.Refinements.{denied, carried, refused, call_verdict, longer, made_none, made_some}
use Rattle.drm_client_calls.proofs.buffers.buf_create.Goals as goal

bad_shape : (w : Rows) (c size : ℕ) → first_failing (admission_checks w c (BufCreate size)) ≡ None
    → is_buffer_size size ≡ false → verdict w (Ask c (BufCreate size)) ≡ Some BadSize
unfolding meaning
bad_shape w c size a s = call_verdict w c (BufCreate size) a ∙ rw s refl

full : (w : Rows) (c size : ℕ) → first_failing (admission_checks w c (BufCreate size)) ≡ None
    → is_buffer_size size ≡ true → has_buffer_room w c ≡ false → verdict w (Ask c (BufCreate size)) ≡ Some Full
unfolding meaning
full w c size a s r = call_verdict w c (BufCreate size) a ∙ rw (s, r) refl

accepted : (w : Rows) (c size : ℕ) → first_failing (admission_checks w c (BufCreate size)) ≡ None
    → is_buffer_size size ≡ true → has_buffer_room w c ≡ true → verdict w (Ask c (BufCreate size)) ≡ None
unfolding meaning
accepted w c size a s r = call_verdict w c (BufCreate size) a ∙ rw (s, r) refl

pub returns-then-not-is_buffer_size-clause-refines : goal.returns-then-not-is_buffer_size-clause-refines
unfolding RefinesCall
returns-then-not-is_buffer_size-clause-refines c = rw c.set_denied.ensures.denied (λ w s a.
    denied c.args.state.now w (Ask c.args.client (BufCreate c.args.size)) BadSize (bad_shape w c.args.client c.args.size a (sym c.is_buffer_size.ensures ∙ c.if-not-is_buffer_size.true)) s.rows)

pub returns-in_err-handle-clause-refines : goal.returns-in_err-handle-clause-refines
unfolding RefinesCall MakesBuffer changed meaning
returns-in_err-handle-clause-refines c = λ w s a.
    let p = err_from_is_err_and c.from_residual.result c.from_residual.ensures.1 in
    let made = c.in_err-handle.ensures.makes w s in
    rw p.1
    (refused c.new_buffer.new.state w (Ask c.args.client (BufCreate c.args.size)) p.0 (accepted w c.args.client c.args.size a (sym c.is_buffer_size.ensures ∙ c.if-not-is_buffer_size.false) made.0) (longer w c.args.client (buffer_size c.args.size)) made.1)

pub returns-in_default-clause-refines : goal.returns-in_default-clause-refines
unfolding RefinesCall MakesBuffer
returns-in_default-clause-refines c = rw c.set_denied-in_default.ensures.denied (λ w s a.
    let made =
    made_none w c.args.client c.buffer_size-size.result c.new_buffer.new.state c.in_ok-handle.field-0
    c.in_default.is (c.in_ok-handle.ensures.makes w s) in
    denied c.new_buffer.new.state w (Ask c.args.client (BufCreate c.args.size)) Full (full w c.args.client c.args.size a (sym c.is_buffer_size.ensures ∙ c.if-not-is_buffer_size.false) made.0) made.1)

pub returns-clause-refines : goal.returns-clause-refines
unfolding RefinesCall MakesBuffer changed meaning answer_of
returns-clause-refines c = rw c.set_buffer.ensures.buffer (λ w s a.
    let made =
    made_some w c.args.client c.buffer_size-size.result c.new_buffer.new.state c.in_ok-handle.field-0
    c.in-Some.handle c.in-Some.is (c.in_ok-handle.ensures.makes w s) in
    carried c.new_buffer.new.state w (Ask c.args.client (BufCreate c.args.size)) _
    (accepted w c.args.client c.args.size a (sym c.is_buffer_size.ensures ∙ c.if-not-is_buffer_size.false) made.0)
    (rw (made.1, c.buffer_size-size.ensures) refl)
    (rw c.buffer_size-size.ensures at made.2))

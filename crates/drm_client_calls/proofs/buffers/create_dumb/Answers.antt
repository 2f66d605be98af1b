use Rattle.std.proofs.Common.{◌≡◌, ℕ, ◌*◌, true, false, Some, None, refl, sym, ap, ◌∙◌}
use Rattle.std.proofs.lemmas.Result.{err_from_is_err_and}
use Rattle.drm_table.specs.declared.calls.Call.TheVariants.{CreateDumb}
use Rattle.drm_table.specs.declared.events.Event.TheVariants.{Ask}
use Rattle.drm_table.specs.declared.rules.Rule.TheVariants.{BadSize, Full}
use Rattle.drm_table.specs.Permit.{first_failing}
use Rattle.drm_model.specs.Rows.{Rows}
use Rattle.drm_model.specs.Buffers.{is_dumb_shape, has_buffer_room, dumb_pitch, dumb_size, rounded_up}
use Rattle.drm_model.specs.Calls.{meaning}
use Rattle.drm_model.specs.Verdict.{verdict, admission_checks}
use Rattle.drm_model.specs.Change.{changed}
use Rattle.drm_model.specs.Reply.{answer_of}
use Rattle.drm_state.specs.Refinement.{RefinesCall, MakesBuffer}
use Rattle.drm_state.proofs.Refinements.{denied, carried, refused, call_verdict, longer, made_none, made_some}
use Rattle.drm_client_calls.proofs.buffers.create_dumb.Goals as goal

bad_shape : (w : Rows) (c width height bpp : ℕ)
    → first_failing (admission_checks w c (CreateDumb width height bpp)) ≡ None → is_dumb_shape width height bpp ≡ false
    → verdict w (Ask c (CreateDumb width height bpp)) ≡ Some BadSize
unfolding meaning
bad_shape w c width height bpp a s = call_verdict w c (CreateDumb width height bpp) a ∙ rw s refl

full : (w : Rows) (c width height bpp : ℕ) → first_failing (admission_checks w c (CreateDumb width height bpp)) ≡ None
    → is_dumb_shape width height bpp ≡ true → has_buffer_room w c ≡ false
    → verdict w (Ask c (CreateDumb width height bpp)) ≡ Some Full
unfolding meaning
full w c width height bpp a s r = call_verdict w c (CreateDumb width height bpp) a ∙ rw (s, r) refl

accepted : (w : Rows) (c width height bpp : ℕ)
    → first_failing (admission_checks w c (CreateDumb width height bpp)) ≡ None → is_dumb_shape width height bpp ≡ true
    → has_buffer_room w c ≡ true → verdict w (Ask c (CreateDumb width height bpp)) ≡ None
unfolding meaning
accepted w c width height bpp a s r = call_verdict w c (CreateDumb width height bpp) a ∙ rw (s, r) refl

size_is : (pitch width height bpp size : ℕ) → pitch ≡ dumb_pitch width bpp → size ≡ rounded_up 4096 (pitch * height)
    → size ≡ dumb_size width height bpp
unfolding dumb_size
size_is pitch width height bpp size p e = e ∙ ap (λ n. rounded_up 4096 (n * height)) p

pub returns-then-not-is_dumb_shape-clause-refines : goal.returns-then-not-is_dumb_shape-clause-refines
unfolding RefinesCall
returns-then-not-is_dumb_shape-clause-refines c = rw c.set_denied.ensures.denied (λ w s a.
    denied c.args.state.now w
    (Ask c.args.client (CreateDumb c.args.pixels.width c.args.pixels.height c.args.pixels.bpp)) BadSize
    (bad_shape w c.args.client c.args.pixels.width c.args.pixels.height c.args.pixels.bpp a (sym c.is_dumb_shape.ensures ∙ c.if-not-is_dumb_shape.true)) s.rows)

pub returns-in_err-handle-clause-refines : goal.returns-in_err-handle-clause-refines
unfolding RefinesCall MakesBuffer changed meaning
returns-in_err-handle-clause-refines c = λ w s a.
    let p = err_from_is_err_and c.from_residual.result c.from_residual.ensures.1 in
    let made = c.in_err-handle.ensures.makes w s in
    rw p.1
    (refused c.new_buffer.new.state w (Ask c.args.client (CreateDumb c.args.pixels.width c.args.pixels.height c.args.pixels.bpp)) p.0 (accepted w c.args.client c.args.pixels.width c.args.pixels.height c.args.pixels.bpp a (sym c.is_dumb_shape.ensures ∙ c.if-not-is_dumb_shape.false) made.0) (longer w c.args.client (dumb_size c.args.pixels.width c.args.pixels.height c.args.pixels.bpp)) made.1)

pub returns-in_default-clause-refines : goal.returns-in_default-clause-refines
unfolding RefinesCall MakesBuffer
returns-in_default-clause-refines c = rw c.set_denied-in_default.ensures.denied (λ w s a.
    let made =
    made_none w c.args.client c.dumb_size-size.result c.new_buffer.new.state c.in_ok-handle.field-0 c.in_default.is
    (c.in_ok-handle.ensures.makes w s) in
    denied c.new_buffer.new.state w (Ask c.args.client (CreateDumb c.args.pixels.width c.args.pixels.height c.args.pixels.bpp)) Full (full w c.args.client c.args.pixels.width c.args.pixels.height c.args.pixels.bpp a (sym c.is_dumb_shape.ensures ∙ c.if-not-is_dumb_shape.false) made.0) made.1)

pub returns-clause-refines : goal.returns-clause-refines
unfolding RefinesCall MakesBuffer changed meaning answer_of
returns-clause-refines c = λ w s a.
    let made =
    made_some w c.args.client c.dumb_size-size.result c.new_buffer.new.state c.in_ok-handle.field-0 c.in-Some.handle
    c.in-Some.is (c.in_ok-handle.ensures.makes w s) in
    let size =
    size_is c.dumb_pitch-pitch.result c.args.pixels.width c.args.pixels.height c.args.pixels.bpp
    c.dumb_size-size.result c.dumb_pitch-pitch.ensures.value c.dumb_size-size.ensures in
    carried c.new_buffer.new.state w
    (Ask c.args.client (CreateDumb c.args.pixels.width c.args.pixels.height c.args.pixels.bpp)) _
    (accepted w c.args.client c.args.pixels.width c.args.pixels.height c.args.pixels.bpp a (sym c.is_dumb_shape.ensures ∙ c.if-not-is_dumb_shape.false) made.0)
    (rw (made.1, c.dumb_pitch-pitch.ensures.value, size) refl)
    (rw size at made.2)

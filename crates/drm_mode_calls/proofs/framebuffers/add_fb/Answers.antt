use Rattle.std.proofs.Common.{◌≡◌, ℕ, Bool, ◌++◌, [], ◌∷◌, ◌&&◌, true, List, find, Some, None, refl, sym, ap, ◌∙◌, subst, inr, arith, length-append}
use Rattle.std.specs.Prelude.{unwrap_or}
use Rattle.std.proofs.lemmas.Bool.{false≢true}
use Rattle.std.specs.Option.{is_some, option_map}
use Rattle.drm_index_array.proofs.Numbers.{among-left}
use Rattle.drm_table.specs.declared.answers.Answer.TheVariants.{Number}
use Rattle.drm_table.specs.declared.calls.Call.{Call}
use Rattle.drm_table.specs.declared.calls.Call.TheVariants.{AddFb}
use Rattle.drm_table.specs.declared.events.Event.TheVariants.{Ask}
use Rattle.drm_table.specs.declared.rules.Rule.TheVariants.{NoHandle, BadSize, Full}
use Rattle.drm_modes.specs.Modes as modes
use Rattle.drm_modes.specs.Modes.{AreModes, framebuffer, with_framebuffer}
use Rattle.drm_modes.specs.AddFbFault.{IsFull}
use Rattle.drm_modes.specs.declared.rows.Shape.{Shape}
use Rattle.drm_index_array.specs.Numbers.{is_among}
use Rattle.drm_files.specs.declared.rows.FileHandle.{FileHandle}
use Rattle.drm_files.specs.Files as files
use Rattle.drm_model.specs.Sharing.{size_of}
use Rattle.drm_model.specs.Rows.{Rows, FramebufferRow, has_handle, object_of}
use Rattle.drm_model.specs.Buffers.{is_dumb_shape}
use Rattle.drm_model.specs.Modes.{fits_object, new_framebuffer}
use Rattle.drm_model.specs.Calls.{meaning}
use Rattle.drm_model.specs.Change.{changed, swept}
use Rattle.drm_model.specs.Reply.{answer_of}
use Rattle.drm_model.specs.Run.{IsLonger}
use Rattle.drm_gem.specs.declared.object.Object.{Object}
use Rattle.drm_gem.specs.Objects.{object_at}
use Rattle.drm_state.specs.declared.state.State.{State}
use Rattle.drm_state.specs.Parts.{step_number_at, keys_of, referring_keys}
use Rattle.drm_state.specs.Invariants.{MeetsInvariants}
use Rattle.drm_state.specs.Refinement.{RefinesCall, Represents}
use Rattle.drm_state.proofs.Refinements.{denied, carried, refused, call_verdict}
use Rattle.drm_state.proofs.Contents.{holds_it, key_there, size_found}
use Rattle.drm_state.proofs.FoundHandle.{among, has_it, object_is, some_free}
use Rattle.drm_state.proofs.SharedChanges.{can_refer}
use Rattle.drm_state.proofs.Framing.{free_framebuffer_is, framed, framed_invariants}
use Rattle.drm_mode_calls.proofs.framebuffers.add_fb.Goals as goal

-- the call
abbrev asks : Shape → ℕ → Call
asks shape handle = AddFb shape.width shape.height shape.pitch shape.bpp handle

abbrev fits : Shape → ℕ → Bool
fits shape size =
    is_dumb_shape shape.width shape.height shape.bpp && fits_object shape.width shape.height shape.pitch shape.bpp size

pub returns-in_default-clause-refines : goal.returns-in_default-clause-refines
unfolding RefinesCall meaning
returns-in_default-clause-refines c = rw c.set_denied.ensures.denied (λ w r a.
    let none =
    holds_it c.args.state.now w r.rows c.args.client c.args.handle _ None c.object_of.ensures.object c.in_default.is
    in
    denied c.args.state.now w (Ask c.args.client (asks c.args.shape c.args.handle)) NoHandle (call_verdict w c.args.client (asks c.args.shape c.args.handle) a ∙ rw none refl) r.rows)

pub size-requires : goal.size-requires
size-requires c =
    key_there c.args.state.now c.args.client c.args.handle c.in-Some.object _ c.requires.precondition.invariants
    c.object_of.ensures.object c.in-Some.is

-- the client has the handle, of the object of this number, over which the shape may lie or not
record IsTested (w : Rows) (c n o : ℕ) (shape : Shape) (fit : Bool) : Type 0 where
  pub has : has_handle w c n ≡ true
  pub object : object_of w c n ≡ o
  pub lies : fits shape (size_of w o) ≡ fit

module _ (s : State) (c n key : ℕ) (t : MeetsInvariants s) (found : Some key ≡ option_map (λ (x : FileHandle). x.object) (find (files.is_handle c n) s.files.holds)) where
  named : is_among (keys_of s.files.holds) key ≡ true
  named = among s c n key t found

  known : is_among (keys_of s.files.holds ++ referring_keys s) key ≡ true
  known = among-left (keys_of s.files.holds) (referring_keys s) key named

  tested : (shape : Shape) (size : ℕ) (fit : Bool)
      → option_map (λ (x : Object). x.size) (object_at s.objects key) ≡ Some size → fit ≡ fits shape size → (w : Rows)
      → Represents s w → IsTested w c n (step_number_at s.objects.objects key) shape fit
  tested shape size fit is e w h = record {
    has = has_it s c n key t found w h;
    object = object_is s c n key t found w h;
    lies = ap (fits shape) (sym (size_found s w key size t known h is)) ∙ sym e;
  }

pub returns-then-not-is_shape_over-clause-refines : goal.returns-then-not-is_shape_over-clause-refines
unfolding RefinesCall meaning
returns-then-not-is_shape_over-clause-refines c = rw c.set_denied-then-not-is_shape_over.ensures.denied (λ w r a.
    let it =
    tested c.args.state.now c.args.client c.args.handle c.in-Some.object c.requires.precondition.invariants
    (sym c.in-Some.is ∙ c.object_of.ensures.object) c.args.shape c.size.result c.is_shape_over.result c.size.ensures
    c.is_shape_over.ensures w r.rows in
    let bad = it.lies ∙ c.if-not-is_shape_over.true in
    denied c.args.state.now w (Ask c.args.client (asks c.args.shape c.args.handle)) BadSize (call_verdict w c.args.client (asks c.args.shape c.args.handle) a ∙ rw (it.has, it.object, bad) refl) r.rows)

pub returns-in-Err-Full-clause-refines : goal.returns-in-Err-Full-clause-refines
unfolding RefinesCall meaning
returns-in-Err-Full-clause-refines c = rw c.set_denied-in-Err-Full.ensures.denied (λ w r a.
    let s = c.args.state.now in
    let it =
    tested c.args.state.now c.args.client c.args.handle c.in-Some.object c.requires.precondition.invariants
    (sym c.in-Some.is ∙ c.object_of.ensures.object) c.args.shape c.size.result c.is_shape_over.result c.size.ensures
    c.is_shape_over.ensures w r.rows in
    let good = it.lies ∙ c.if-not-is_shape_over.false in
    let none =
    free_framebuffer_is s w c.requires.precondition.invariants r.rows
    ∙ c.in-Err-Full.ensures.full.0 (subst IsFull (sym c.in-Err-Full.field-0-is) tt) in
    denied (record s { modes = c.addfb.new.self }) w (Ask c.args.client (asks c.args.shape c.args.handle)) Full
    (call_verdict w c.args.client (asks c.args.shape c.args.handle) a ∙ rw (it.has, it.object, good, none) refl)
    (subst (λ ms. Represents (record s { modes = ms }) w) (sym c.in-Err-Full.ensures.err) r.rows))

-- the framebuffers with one more
abbrev more : Rows → ℕ → ℕ → Shape → List FramebufferRow
more w c o shape =
    w.framebuffers ++ record
    { framebuffer = new_framebuffer w; client = c; object = o; width = shape.width; height = shape.height; pitch = shape.pitch; bpp = shape.bpp }
    ∷ []

longer : (w : Rows) (c o : ℕ) (shape : Shape) → IsLonger w (record w { framebuffers = more w c o shape })
longer w c o shape =
    inr
    (inr (inr (inr (inr (inr (inr (inr (omega (arith, length-append w.framebuffers (record { framebuffer = new_framebuffer w; client = c; object = o; width = shape.width; height = shape.height; pitch = shape.pitch; bpp = shape.bpp } ∷ []))))))))))

pub returns-in-Err-NoMemory-clause-refines : goal.returns-in-Err-NoMemory-clause-refines
unfolding RefinesCall meaning changed
returns-in-Err-NoMemory-clause-refines c = λ w r a.
    let s = c.args.state.now in
    let it =
    tested c.args.state.now c.args.client c.args.handle c.in-Some.object c.requires.precondition.invariants
    (sym c.in-Some.is ∙ c.object_of.ensures.object) c.args.shape c.size.result c.is_shape_over.result c.size.ensures
    c.is_shape_over.ensures w r.rows in
    let good = it.lies ∙ c.if-not-is_shape_over.false in
    let free =
    ap is_some (free_framebuffer_is s w c.requires.precondition.invariants r.rows)
    ∙ some_free (modes.free_framebuffer s.modes)
    (λ e. subst IsFull c.in-Err-NoMemory.field-0-is (c.in-Err-NoMemory.ensures.full.1 e)) in
    refused (record s { modes = c.addfb.new.self }) w (Ask c.args.client (asks c.args.shape c.args.handle)) (record {})
    (call_verdict w c.args.client (asks c.args.shape c.args.handle) a ∙ rw (it.has, it.object, good, free) refl)
    (rw it.object (longer w c.args.client (step_number_at s.objects.objects c.in-Some.object) c.args.shape))
    (subst (λ ms. Represents (record s { modes = ms }) w) (sym c.in-Err-NoMemory.ensures.err) r.rows)

pub returns-then-not-is_full-clause-refines : goal.returns-then-not-is_full-clause-refines
unfolding RefinesCall meaning changed
returns-then-not-is_full-clause-refines c = λ w r a.
    let s = c.args.state.now in
    let it =
    tested c.args.state.now c.args.client c.args.handle c.in-Some.object c.requires.precondition.invariants
    (sym c.in-Some.is ∙ c.object_of.ensures.object) c.args.shape c.size.result c.is_shape_over.result c.size.ensures
    c.is_shape_over.ensures w r.rows in
    let good = it.lies ∙ c.if-not-is_shape_over.false in
    let free =
    ap is_some (free_framebuffer_is s w c.requires.precondition.invariants r.rows)
    ∙ some_free (modes.free_framebuffer s.modes)
    (λ e. false≢true (sym c.if-not-is_full.true ∙ c.is_full.ensures.1 e)) in
    refused s w (Ask c.args.client (asks c.args.shape c.args.handle)) (record {})
    (call_verdict w c.args.client (asks c.args.shape c.args.handle) a ∙ rw (it.has, it.object, good, free) refl)
    (rw it.object (longer w c.args.client (step_number_at s.objects.objects c.in-Some.object) c.args.shape))
    r.rows

pub refer-requires : goal.refer-requires
refer-requires c =
    can_refer c.args.state.now c.in-Some.object c.args.step_number c.requires.precondition.invariants
    (known c.args.state.now c.args.client c.args.handle c.in-Some.object c.requires.precondition.invariants (sym c.in-Some.is ∙ c.object_of.ensures.object))
    c.requires.precondition.later.tokens c.requires.precondition.later.framebuffers c.requires.precondition.fits

pub returns-clause-invariants : goal.returns-clause-invariants
returns-clause-invariants c =
    let s = c.args.state.now in
    let are = subst AreModes c.in-Ok.ensures.ok c.laws.ensures in
    subst (λ ms. MeetsInvariants (record s { modes = ms; objects = c.refer.new.self })) (sym c.in-Ok.ensures.ok)
    (subst (λ o. MeetsInvariants (record s { modes = with_framebuffer s.modes (framebuffer c.in-Ok.framebuffer c.args.client c.args.shape c.in-Some.object); objects = o })) (sym c.refer.ensures)
    (framed_invariants s c.in-Ok.framebuffer c.args.client c.in-Some.object c.args.shape c.requires.precondition.invariants (named c.args.state.now c.args.client c.args.handle c.in-Some.object c.requires.precondition.invariants (sym c.in-Some.is ∙ c.object_of.ensures.object)) are))

pub returns-clause-refines : goal.returns-clause-refines
unfolding RefinesCall meaning changed answer_of
returns-clause-refines c = rw c.set_number.ensures.number (λ w r a.
    let s = c.args.state.now in
    let t = c.requires.precondition.invariants in
    let id = c.in-Ok.framebuffer in
    let it =
    tested c.args.state.now c.args.client c.args.handle c.in-Some.object c.requires.precondition.invariants
    (sym c.in-Some.is ∙ c.object_of.ensures.object) c.args.shape c.size.result c.is_shape_over.result c.size.ensures
    c.is_shape_over.ensures w r.rows in
    let good = it.lies ∙ c.if-not-is_shape_over.false in
    let free = free_framebuffer_is s w t r.rows ∙ c.in-Ok.ensures.given in
    let are = subst AreModes c.in-Ok.ensures.ok c.laws.ensures in
    let o = step_number_at s.objects.objects c.in-Some.object in
    let after = swept (record w { framebuffers = more w c.args.client o c.args.shape }) in
    carried (record s { modes = c.addfb.new.self; objects = c.refer.new.self }) w
    (Ask c.args.client (asks c.args.shape c.args.handle)) (Number id)
    (call_verdict w c.args.client (asks c.args.shape c.args.handle) a ∙ rw (it.has, it.object, good, free) refl)
    (rw free refl)
    (rw it.object
    (subst (λ ms. Represents (record s { modes = ms; objects = c.refer.new.self }) after) (sym c.in-Ok.ensures.ok)
    (subst (λ x. Represents (record s { modes = with_framebuffer s.modes (framebuffer id c.args.client c.args.shape c.in-Some.object); objects = x }) after) (sym c.refer.ensures)
    (framed s id c.args.client c.in-Some.object c.args.shape t (named c.args.state.now c.args.client c.args.handle c.in-Some.object c.requires.precondition.invariants (sym c.in-Some.is ∙ c.object_of.ensures.object)) are w o r.rows refl (ap (λ f. unwrap_or f 0) free))))))

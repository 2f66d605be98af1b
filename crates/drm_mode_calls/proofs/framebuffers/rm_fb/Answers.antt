use Rattle.std.proofs.Common.{◌≡◌, ℕ, Option, None, Some, refl, sym, ap, ◌∙◌, subst, find}
use Rattle.std.specs.Option.{is_some, option_map}
use Rattle.drm_table.specs.declared.answers.Answer.TheVariants.{Done}
use Rattle.drm_table.specs.declared.calls.Call.TheVariants.{RmFb}
use Rattle.drm_table.specs.declared.events.Event.TheVariants.{Ask}
use Rattle.drm_table.specs.declared.rules.Rule.TheVariants.{NoFb}
use Rattle.drm_index_array.proofs.FoundInLists.{is_some-map}
use Rattle.drm_modes.specs.declared.rows.Framebuffer.{Framebuffer}
use Rattle.drm_modes.specs.Modes as modes
use Rattle.drm_modes.specs.Modes.{AreModes}
use Rattle.drm_model.specs.Rows.{Rows, without}
use Rattle.drm_model.specs.Modes as model
use Rattle.drm_model.specs.Calls.{meaning}
use Rattle.drm_model.specs.Change.{changed, swept}
use Rattle.drm_model.specs.Reply.{answer_of}
use Rattle.drm_state.specs.declared.state.State.{State}
use Rattle.drm_state.specs.Parts.{keys_of, referring}
use Rattle.drm_state.specs.Invariants.{MeetsInvariants}
use Rattle.drm_state.specs.Refinement.{RefinesReply, Represents}
use Rattle.drm_state.proofs.Counting.{IsStep}
use Rattle.drm_state.proofs.Contents.{has_reference, unreferred_step, unrefer_limit}
use Rattle.drm_state.proofs.Refinements.{denied, carried, call_verdict}
use Rattle.drm_state.proofs.Framing.{others, own_framebuffer, frame_invariants, unframed, unframed_invariants}
use Rattle.drm_mode_calls.proofs.framebuffers.rm_fb.Goals as goal

-- whether the client made the framebuffer, by what was found
is_own : (s : State) (w : Rows) (c f : ℕ) (o r : Option ℕ) → MeetsInvariants s → Represents s w
    → o ≡ option_map (λ (x : Framebuffer). x.object) (find (modes.is_framebuffer_of c f) s.modes.framebuffers) → o ≡ r
    → is_some (find (model.is_framebuffer_of c f) w.framebuffers) ≡ is_some r
is_own s w c f o r t h e g =
    own_framebuffer s w t h c f
    ∙ sym (is_some-map (λ (x : Framebuffer). x.object) (find (modes.is_framebuffer_of c f) s.modes.framebuffers))
    ∙ ap is_some (sym e ∙ g)

pub returns-in_default-clause-refines : goal.returns-in_default-clause-refines
unfolding RefinesReply meaning
returns-in_default-clause-refines c = rw c.set_denied.ensures.denied (λ w h a.
    let s = c.args.state.now in
    let none =
    is_own s w c.args.client c.args.framebuffer c.rmfb.result None c.requires.invariants h c.rmfb.ensures.object
    c.in_default.is in
    denied (record s { modes = c.rmfb.new.self }) w (Ask c.args.client (RmFb c.args.framebuffer)) NoFb
    (call_verdict w c.args.client (RmFb c.args.framebuffer) a ∙ rw none refl)
    (subst (λ ms. Represents (record s { modes = ms }) w) (sym c.in_default.ensures.none) h))

pub unrefer-dead-requires : goal.unrefer-dead-requires
unrefer-dead-requires c =
    let s = c.args.state.now in
    has_reference s.objects c.in-Some.object (keys_of s.files.holds)
    (referring s.tokens.tokens (others c.args.framebuffer s.modes.framebuffers))
    (frame_invariants s c.args.client c.args.framebuffer c.in-Some.object c.requires.invariants (sym c.in-Some.is ∙ c.rmfb.ensures.object))

step : (c : goal.After-set_done)
    → IsStep c.args.state.now.objects.objects (keys_of c.args.state.now.files.holds) (referring c.args.state.now.tokens.tokens (others c.args.framebuffer c.args.state.now.modes.framebuffers)) c.unrefer-dead.new.self
step c =
    let s = c.args.state.now in
    unreferred_step s.objects c.unrefer-dead.new.self c.in-Some.object (keys_of s.files.holds)
    (referring s.tokens.tokens (others c.args.framebuffer s.modes.framebuffers)) c.unrefer-dead.result
    (frame_invariants s c.args.client c.args.framebuffer c.in-Some.object c.requires.invariants (sym c.in-Some.is ∙ c.rmfb.ensures.object))
    c.unrefer-dead.ensures.dead c.unrefer-dead.ensures.gone c.unrefer-dead.ensures.stays

pub returns-clause-invariants : goal.returns-clause-invariants
returns-clause-invariants c =
    let s = c.args.state.now in
    subst (λ ms. MeetsInvariants (record s { modes = ms; objects = c.unrefer-dead.new.self }))
    (sym c.in-Some.ensures.removed)
    (unframed_invariants s c.args.client c.args.framebuffer c.in-Some.object c.requires.invariants (sym c.in-Some.is ∙ c.rmfb.ensures.object) c.unrefer-dead.new.self (step c)
    (unrefer_limit s.objects c.unrefer-dead.new.self c.in-Some.object c.unrefer-dead.result c.unrefer-dead.ensures.gone c.unrefer-dead.ensures.stays) (subst AreModes c.in-Some.ensures.removed c.laws.ensures))

pub returns-clause-refines : goal.returns-clause-refines
unfolding RefinesReply meaning changed answer_of
returns-clause-refines c = rw c.set_done.ensures.done (λ w h a.
    let s = c.args.state.now in
    let one =
    is_own s w c.args.client c.args.framebuffer c.rmfb.result (Some c.in-Some.object) c.requires.invariants h
    c.rmfb.ensures.object c.in-Some.is in
    carried (record s { modes = c.rmfb.new.self; objects = c.unrefer-dead.new.self }) w
    (Ask c.args.client (RmFb c.args.framebuffer)) Done
    (call_verdict w c.args.client (RmFb c.args.framebuffer) a ∙ rw one refl) refl
    (subst (λ ms. Represents (record s { modes = ms; objects = c.unrefer-dead.new.self }) (swept (record w { framebuffers = without (model.is_framebuffer_of c.args.client c.args.framebuffer) w.framebuffers }))) (sym c.in-Some.ensures.removed)
    (unframed s c.args.client c.args.framebuffer c.in-Some.object c.requires.invariants (sym c.in-Some.is ∙ c.rmfb.ensures.object) c.unrefer-dead.new.self (step c)
    (unrefer_limit s.objects c.unrefer-dead.new.self c.in-Some.object c.unrefer-dead.result c.unrefer-dead.ensures.gone c.unrefer-dead.ensures.stays) (subst AreModes c.in-Some.ensures.removed c.laws.ensures) w h)))

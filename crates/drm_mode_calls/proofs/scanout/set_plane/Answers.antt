use Rattle.std.proofs.Common.{None, ◌≡◌, ◌==◌, ◌||◌, sym, ap, refl, subst, ◌∙◌}
use Rattle.drm_table.specs.declared.answers.Answer.TheVariants.{Done}
use Rattle.drm_table.specs.declared.calls.Call.TheVariants.{SetPlane}
use Rattle.drm_table.specs.declared.events.Event.TheVariants.{Ask}
use Rattle.drm_modes.specs.declared.kinds.Kind.TheVariants.{Crtc}
use Rattle.drm_modes.specs.Topology.{is_plane}
use Rattle.drm_modes.specs.Modes.{ModeSet, can_show}
use Rattle.drm_model.specs.Modes as model
use Rattle.drm_model.specs.Calls.{meaning}
use Rattle.drm_model.specs.Change.{changed}
use Rattle.drm_model.specs.Reply.{answer_of}
use Rattle.drm_state.specs.Seeing.{sees, sees_object}
use Rattle.drm_state.specs.Refinement.{RefinesReply, Represents}
use Rattle.drm_state.proofs.Refinements.{denied, carried_on}
use Rattle.drm_state.proofs.Scanouts.{scanout_represents, shown_invariants}
use Rattle.drm_mode_calls.specs.Scanout.{refusal, sees_plane_route, is_plane_route}
use Rattle.drm_mode_calls.proofs.Routes.{seen_by, is_first, plane_verdict, plane_place}
use Rattle.drm_mode_calls.proofs.scanout.set_plane.Goals as goal

pub returns-in-Some-clause-refines : goal.returns-in-Some-clause-refines
unfolding RefinesReply
returns-in-Some-clause-refines c = rw c.set_denied.ensures.denied (λ w h a.
    let s = c.args.state.now in
    denied s w (Ask c.args.caller.client (SetPlane c.args.plane c.args.crtc c.args.framebuffer)) c.in-Some.rule
    (plane_verdict s w c.args.caller c.requires.caller h c.args.plane c.args.crtc c.args.framebuffer a ∙ sym c.plane_refusal.ensures ∙ c.in-Some.is) h)

pub returns-clause-invariants : goal.returns-clause-invariants
returns-clause-invariants c =
    shown_invariants c.args.state.now c.setplane.new.self c.requires.invariants c.laws.ensures
    (ap (λ (set : ModeSet). set.framebuffers) c.setplane.ensures)

pub returns-clause-refines : goal.returns-clause-refines
unfolding RefinesReply meaning changed answer_of
returns-clause-refines c = rw c.set_done.ensures.done (λ w h a.
    let s = c.args.state.now in
    let seen = sees_plane_route s c.args.caller c.args.plane c.args.crtc c.args.framebuffer in
    let there = can_show s.modes c.args.framebuffer in
    let route = is_plane_route s c.args.plane c.args.crtc c.args.framebuffer in
    let none : refusal seen there route ≡ None = sym c.plane_refusal.ensures ∙ c.in_default.is in
    let it =
    is_first (is_plane s.modes.topology c.args.plane) (sees s c.args.caller c.args.plane)
    ((c.args.framebuffer == 0) || sees_object s c.args.caller Crtc c.args.crtc) (seen_by seen there route none) in
    let place = plane_place s c.requires.invariants c.args.plane it in
    carried_on (record s { modes = c.setplane.new.self }) w
    (Ask c.args.caller.client (SetPlane c.args.plane c.args.crtc c.args.framebuffer)) Done (returns-clause-invariants c)
    (plane_verdict s w c.args.caller c.requires.caller h c.args.plane c.args.crtc c.args.framebuffer a ∙ none) refl
    (subst (λ m. Represents (record s { modes = m }) (record w { shown = model.with_shown w c.args.plane c.args.framebuffer })) (sym c.setplane.ensures) (scanout_represents s w c.args.plane c.args.framebuffer h place.0 place.1)))

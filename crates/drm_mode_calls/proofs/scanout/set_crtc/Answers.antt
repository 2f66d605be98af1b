use Rattle.std.proofs.Common.{None, ◌≡◌, ◌==◌, ◌||◌, sym, ap, refl, subst, ◌∙◌}
use Rattle.drm_table.specs.declared.answers.Answer.TheVariants.{Done}
use Rattle.drm_table.specs.declared.calls.Call.TheVariants.{SetCrtc}
use Rattle.drm_table.specs.declared.events.Event.TheVariants.{Ask}
use Rattle.drm_modes.specs.declared.kinds.Kind.TheVariants.{Connector}
use Rattle.drm_modes.specs.Topology.{is_crtc}
use Rattle.drm_modes.specs.Modes.{ModeSet, can_show}
use Rattle.drm_model.specs.Modes as model
use Rattle.drm_model.specs.Calls.{meaning}
use Rattle.drm_model.specs.Change.{changed}
use Rattle.drm_model.specs.Reply.{answer_of}
use Rattle.drm_state.specs.Seeing.{sees, sees_object}
use Rattle.drm_state.specs.Refinement.{RefinesReply, Represents}
use Rattle.drm_state.proofs.Refinements.{denied, carried_on}
use Rattle.drm_state.proofs.Scanouts.{scanout_represents, shown_invariants}
use Rattle.drm_mode_calls.specs.Scanout.{refusal, sees_route, is_route}
use Rattle.drm_mode_calls.proofs.Routes.{seen_by, is_first, crtc_verdict, crtc_place}
use Rattle.drm_mode_calls.proofs.scanout.set_crtc.Goals as goal

pub returns-in-Some-clause-refines : goal.returns-in-Some-clause-refines
unfolding RefinesReply
returns-in-Some-clause-refines c = rw c.set_denied.ensures.denied (λ w h a.
    let s = c.args.state.now in
    denied s w (Ask c.args.caller.client (SetCrtc c.args.crtc c.args.framebuffer c.args.connector)) c.in-Some.rule
    (crtc_verdict s w c.args.caller c.requires.caller h c.args.crtc c.args.framebuffer c.args.connector a ∙ sym c.crtc_refusal.ensures ∙ c.in-Some.is) h)

pub returns-clause-invariants : goal.returns-clause-invariants
returns-clause-invariants c =
    shown_invariants c.args.state.now c.setcrtc.new.self c.requires.invariants c.laws.ensures
    (ap (λ (set : ModeSet). set.framebuffers) c.setcrtc.ensures)

pub returns-clause-refines : goal.returns-clause-refines
unfolding RefinesReply meaning changed answer_of
returns-clause-refines c = rw c.set_done.ensures.done (λ w h a.
    let s = c.args.state.now in
    let seen = sees_route s c.args.caller c.args.crtc c.args.connector in
    let there = can_show s.modes c.args.framebuffer in
    let route = is_route s c.args.crtc c.args.framebuffer c.args.connector in
    let none : refusal seen there route ≡ None = sym c.crtc_refusal.ensures ∙ c.in_default.is in
    let it =
    is_first (is_crtc s.modes.topology c.args.crtc) (sees s c.args.caller c.args.crtc)
    ((c.args.connector == 0) || sees_object s c.args.caller Connector c.args.connector)
    (seen_by seen there route none) in
    let place = crtc_place s c.requires.invariants c.args.crtc it in
    carried_on (record s { modes = c.setcrtc.new.self }) w
    (Ask c.args.caller.client (SetCrtc c.args.crtc c.args.framebuffer c.args.connector)) Done
    (returns-clause-invariants c)
    (crtc_verdict s w c.args.caller c.requires.caller h c.args.crtc c.args.framebuffer c.args.connector a ∙ none) refl
    (subst (λ m. Represents (record s { modes = m }) (record w { shown = model.with_shown w c.args.crtc c.args.framebuffer })) (sym c.setcrtc.ensures) (scanout_represents s w c.args.crtc c.args.framebuffer h place.0 place.1)))

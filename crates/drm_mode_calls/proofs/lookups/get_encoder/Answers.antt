use Rattle.std.proofs.Common.{◌≡◌, true, false, [], ◌∷◌, sym, ap, ◌∙◌}
use Rattle.std.specs.Option.{is_some}
use Rattle.drm_table.specs.declared.answers.Answer.TheVariants.{Number}
use Rattle.drm_table.specs.declared.calls.Call.TheVariants.{GetEncoder}
use Rattle.drm_table.specs.declared.events.Event.TheVariants.{Ask}
use Rattle.drm_table.specs.declared.rules.Rule.TheVariants.{NoModeObject}
use Rattle.drm_table.specs.Permit.{check, first_failing}
use Rattle.drm_model.specs.Calls.{meaning}
use Rattle.drm_model.specs.Change.{changed}
use Rattle.drm_model.specs.Reply.{answer_of}
use Rattle.std.proofs.lemmas.List.Elements.{filter_agree}
use Rattle.drm_modes.specs.declared.kinds.Kind.TheVariants.{Crtc}
use Rattle.drm_modes.specs.Topology.{ids_of_kind, mask_over}
use Rattle.drm_leases.specs.Views.{is_in_view}
use Rattle.drm_state.specs.Seeing.{sees}
use Rattle.drm_state.specs.Refinement.{RefinesReply}
use Rattle.drm_state.proofs.Refinements.{denied, carried_on, call_verdict}
use Rattle.drm_modes.specs.Topology.{is_encoder}
use Rattle.drm_state.proofs.Seeing.{encoder_seen, mask_visible}
use Rattle.drm_mode_calls.proofs.lookups.get_encoder.Goals as goal

pub returns-in_default : goal.returns-in_default
unfolding RefinesReply meaning
returns-in_default c = rw c.set_denied.ensures.denied (λ w h a.
    let s = c.args.state.now in
    let x = c.args.encoder in
    let unseen : is_encoder w.topology x ≡ false =
    encoder_seen s w c.args.caller h x ∙ sym c.view_with.ensures.object ∙ ap is_some c.in_default.is in
    denied s w (Ask c.args.caller.client (GetEncoder x)) NoModeObject (call_verdict w c.args.caller.client (GetEncoder x) a ∙ ap (λ b. first_failing (check NoModeObject b ∷ [])) unseen) h)

pub returns : goal.returns
unfolding RefinesReply meaning changed answer_of
returns c = rw c.set_number.ensures.number (λ w h a.
    let s = c.args.state.now in
    let x = c.args.encoder in
    let seen : is_encoder w.topology x ≡ true =
    encoder_seen s w c.args.caller h x ∙ sym c.view_with.ensures.object ∙ ap is_some c.in-Some.is in
    carried_on s w (Ask c.args.caller.client (GetEncoder x)) (Number c.visible_mask.result) c.requires.invariants
    (call_verdict w c.args.caller.client (GetEncoder x) a ∙ ap (λ b. first_failing (check NoModeObject b ∷ [])) seen)
    (ap Number (c.visible_mask.ensures ∙ ap (mask_over s.modes.topology x) (filter_agree (is_in_view s.modes.topology c.in-Some.seen) (sees s c.args.caller) c.in-Some.ensures.view (ids_of_kind s.modes.topology Crtc)) ∙ sym (mask_visible s w c.args.caller c.requires.caller h x))) h)

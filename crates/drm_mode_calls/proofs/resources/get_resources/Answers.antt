use Rattle.std.proofs.Common.{◌++◌, sym, ap, ◌∙◌, arith}
use Rattle.std.proofs.lemmas.List.Elements.{filter_agree}
use Rattle.drm_modes.specs.Topology.{crtc_ids, encoder_ids, connector_ids}
use Rattle.drm_leases.specs.Views.{is_in_view}
use Rattle.drm_state.specs.Seeing.{sees}
use Rattle.drm_table.specs.declared.answers.Answer.TheVariants.{Resources}
use Rattle.drm_table.specs.declared.calls.Call.TheVariants.{GetResources}
use Rattle.drm_table.specs.declared.events.Event.TheVariants.{Ask}
use Rattle.drm_model.specs.Calls.{meaning}
use Rattle.drm_model.specs.Change.{changed}
use Rattle.drm_model.specs.Reply.{answer_of}
use Rattle.drm_state.specs.Refinement.{RefinesReply}
use Rattle.drm_state.proofs.Refinements.{carried_on, call_verdict}
use Rattle.drm_state.proofs.Seeing.{crtcs_visible, connectors_visible, encoders_listed, framebuffers_listed}
use Rattle.drm_modes.proofs.Fixed.{few_of_kind}
use Rattle.drm_modes.specs.declared.kinds.Kind.TheVariants.{Encoder}
use Rattle.drm_mode_calls.proofs.resources.get_resources.Goals as goal

pub append_ids-requires : goal.append_ids-requires
append_ids-requires c =
    rw c.new-encoders.ensures
    (record { room = omega (arith, few_of_kind c.args.state.now.modes.topology c.laws.ensures.topology Encoder) })

pub returns : goal.returns
unfolding RefinesReply meaning changed answer_of
returns c = rw c.set_resources.ensures.resources (λ w h a.
    let s = c.args.state.now in
    let client = c.args.caller.client in
    let caller = c.args.caller in
    let all = filter_agree (is_in_view s.modes.topology c.view-seen.result) (sees s caller) c.view-seen.ensures in
    let crtcs = c.put_ids_in.ensures ∙ all (crtc_ids s.modes.topology) ∙ sym (crtcs_visible s w caller c.requires.caller h)
    in
    let connectors =
    c.put_ids_in-2.ensures ∙ all (connector_ids s.modes.topology)
    ∙ sym (connectors_visible s w caller c.requires.caller h) in
    let encoders = c.append_ids.ensures ∙ ap (λ l. l ++ encoder_ids s.modes.topology) c.new-encoders.ensures ∙ sym (encoders_listed s w h) in
    let framebuffers = c.framebuffers_of-framebuffers.ensures ∙ sym (framebuffers_listed s w c.requires.invariants h client) in
    carried_on s w (Ask client GetResources)
    (Resources c.put_ids_in.new.seen c.put_ids_in-2.new.seen c.append_ids.new.list c.framebuffers_of-framebuffers.result) c.requires.invariants
    (call_verdict w client GetResources a)
    (λ i. Resources (crtcs i) (connectors i) (encoders i) (framebuffers i)) h)

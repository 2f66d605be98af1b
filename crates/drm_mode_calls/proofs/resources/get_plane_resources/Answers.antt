use Rattle.std.proofs.Common.{sym, ap, ◌∙◌}
use Rattle.drm_table.specs.declared.answers.Answer.TheVariants.{List as ListIs}
use Rattle.drm_table.specs.declared.calls.Call.TheVariants.{GetPlaneResources}
use Rattle.drm_table.specs.declared.events.Event.TheVariants.{Ask}
use Rattle.drm_model.specs.Calls.{meaning}
use Rattle.drm_model.specs.Change.{changed}
use Rattle.drm_model.specs.Reply.{answer_of}
use Rattle.drm_state.specs.Refinement.{RefinesReply}
use Rattle.drm_state.proofs.Refinements.{carried_on, call_verdict}
use Rattle.drm_state.proofs.Seeing.{planes_visible}
use Rattle.drm_mode_calls.proofs.resources.get_plane_resources.Goals as goal

pub returns : goal.returns
unfolding RefinesReply meaning changed answer_of
returns c = rw c.set_list.ensures.list (λ w h a.
    let s = c.args.state.now in
    let client = c.args.caller.client in
    let caller = c.args.caller in
    carried_on s w (Ask client GetPlaneResources) (ListIs c.visible.result) c.requires.invariants
    (call_verdict w client GetPlaneResources a)
    (ap ListIs (c.visible.ensures ∙ sym (planes_visible s w caller c.requires.caller h))) h)

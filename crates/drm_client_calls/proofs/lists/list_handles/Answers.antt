use Rattle.std.proofs.Common.{ap, ◌∙◌}
use Rattle.drm_table.specs.declared.answers.Answer.TheVariants.{List as ListIs}
use Rattle.drm_table.specs.declared.calls.Call.TheVariants.{ListHandles}
use Rattle.drm_table.specs.declared.events.Event.TheVariants.{Ask}
use Rattle.drm_model.specs.Calls.{meaning}
use Rattle.drm_model.specs.Change.{changed}
use Rattle.drm_model.specs.Reply.{answer_of}
use Rattle.drm_state.specs.Refinement.{RefinesReply}
use Rattle.drm_state.proofs.Refinements.{carried_on, call_verdict}
use Rattle.drm_state.proofs.Contents.{handles_listed}
use Rattle.drm_client_calls.proofs.lists.list_handles.Goals as goal

pub returns : goal.returns
unfolding RefinesReply meaning changed answer_of
returns c = rw c.set_list.ensures.list (λ w h a.
    carried_on c.args.state.now w (Ask c.args.client (ListHandles c.args.from)) _ c.requires.invariants
    (call_verdict w c.args.client (ListHandles c.args.from) a)
    (ap ListIs (c.handles_of.ensures ∙ handles_listed c.args.state.now w c.requires.invariants h c.args.client c.args.from))
    h)

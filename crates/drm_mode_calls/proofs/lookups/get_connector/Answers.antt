use Rattle.std.proofs.Common.{◌≡◌, true, false, [], ◌∷◌, sym, ap, ◌∙◌}
use Rattle.std.specs.Option.{is_some}
use Rattle.drm_table.specs.declared.answers.Answer.TheVariants.{Number}
use Rattle.drm_table.specs.declared.calls.Call.TheVariants.{GetConnector}
use Rattle.drm_table.specs.declared.events.Event.TheVariants.{Ask}
use Rattle.drm_table.specs.declared.rules.Rule.TheVariants.{NoModeObject}
use Rattle.drm_table.specs.Permit.{check, first_failing}
use Rattle.drm_model.specs.Sees as model
use Rattle.drm_model.specs.Calls.{meaning}
use Rattle.drm_model.specs.Change.{changed}
use Rattle.drm_model.specs.Reply.{answer_of}
use Rattle.drm_state.specs.Refinement.{RefinesReply}
use Rattle.drm_state.proofs.Refinements.{denied, carried_on, call_verdict}
use Rattle.std.specs.Prelude.{unwrap_or}
use Rattle.drm_modes.specs.Topology.{encoder_of}
use Rattle.drm_state.proofs.Seeing.{topology_is, connector_seen}
use Rattle.drm_mode_calls.proofs.lookups.get_connector.Goals as goal

pub returns-in_default : goal.returns-in_default
unfolding RefinesReply meaning
returns-in_default c = rw c.set_denied.ensures.denied (λ w h a.
    let s = c.args.state.now in
    let x = c.args.connector in
    let unseen : model.sees_connector w c.args.caller.client x ≡ false =
    connector_seen s w c.args.caller c.requires.caller h x ∙ sym c.view_with.ensures.object ∙ ap is_some c.in_default.is in
    denied s w (Ask c.args.caller.client (GetConnector x)) NoModeObject (call_verdict w c.args.caller.client (GetConnector x) a ∙ ap (λ b. first_failing (check NoModeObject b ∷ [])) unseen) h)

pub returns : goal.returns
unfolding RefinesReply meaning changed answer_of
returns c = rw c.set_number.ensures.number (λ w h a.
    let s = c.args.state.now in
    let x = c.args.connector in
    let seen : model.sees_connector w c.args.caller.client x ≡ true =
    connector_seen s w c.args.caller c.requires.caller h x ∙ sym c.view_with.ensures.object ∙ ap is_some c.in-Some.is in
    carried_on s w (Ask c.args.caller.client (GetConnector x)) (Number c.unwrap_or.result) c.requires.invariants
    (call_verdict w c.args.caller.client (GetConnector x) a ∙ ap (λ b. first_failing (check NoModeObject b ∷ [])) seen)
    (ap Number (c.unwrap_or.ensures ∙ ap (λ o. unwrap_or o 0) (c.encoder_of.ensures ∙ ap (λ t. encoder_of t x) (sym (topology_is s w h))))) h)

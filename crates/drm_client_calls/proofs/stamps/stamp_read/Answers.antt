use Rattle.std.proofs.Common.{◌≡◌, Some, None, refl, sym, ap, ◌∙◌}
use Rattle.drm_table.specs.declared.answers.Answer.TheVariants.{Number}
use Rattle.drm_table.specs.declared.calls.Call.TheVariants.{StampRead}
use Rattle.drm_table.specs.declared.events.Event.TheVariants.{Ask}
use Rattle.drm_table.specs.declared.rules.Rule.TheVariants.{NoHandle}
use Rattle.drm_model.specs.Rows.{object_of}
use Rattle.drm_model.specs.Calls.{meaning}
use Rattle.drm_model.specs.Change.{changed}
use Rattle.drm_model.specs.Reply.{answer_of}
use Rattle.drm_state.specs.Refinement.{RefinesReply}
use Rattle.drm_state.proofs.Refinements.{denied, carried_on, call_verdict}
use Rattle.drm_state.proofs.Contents.{holds_it, object_found, key_found, key_there, stamp_found}
use Rattle.drm_client_calls.proofs.stamps.stamp_read.Goals as goal

pub returns-in_default : goal.returns-in_default
unfolding RefinesReply meaning
returns-in_default c = rw c.set_denied.ensures.denied (λ w h a.
    let none =
    holds_it c.args.state.now w h c.args.client c.args.handle _ None c.object_of.ensures.object c.in_default.is in
    denied c.args.state.now w (Ask c.args.client (StampRead c.args.handle)) NoHandle (call_verdict w c.args.client (StampRead c.args.handle) a ∙ rw none refl) h)

pub stamp-requires : goal.stamp-requires
stamp-requires c =
    key_there c.args.state.now c.args.client c.args.handle c.in-Some.object _ c.requires.invariants
    c.object_of.ensures.object c.in-Some.is

pub returns : goal.returns
unfolding RefinesReply meaning changed answer_of
returns c = rw c.set_number.ensures.number (λ w h a.
    let some =
    holds_it c.args.state.now w h c.args.client c.args.handle _ (Some c.in-Some.object) c.object_of.ensures.object
    c.in-Some.is in
    let object : object_of w c.args.client c.args.handle ≡ _ =
    object_found c.args.state.now w c.requires.invariants h c.args.client c.args.handle c.in-Some.object _
    c.object_of.ensures.object c.in-Some.is in
    let among =
    key_found c.args.client c.args.handle c.in-Some.object c.args.state.now.files.holds
    (sym c.in-Some.is ∙ c.object_of.ensures.object) in
    carried_on c.args.state.now w (Ask c.args.client (StampRead c.args.handle)) _ c.requires.invariants
    (call_verdict w c.args.client (StampRead c.args.handle) a ∙ rw some refl)
    (rw object (ap Number (stamp_found c.args.state.now w c.in-Some.object c.stamp.result c.requires.invariants among h c.stamp.ensures))) h)

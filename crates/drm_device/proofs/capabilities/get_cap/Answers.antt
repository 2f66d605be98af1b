use Rattle.std.proofs.Common.{◌≡◌, ◌==◌, ◌||◌, false, refl, ◌∙◌, arith}
use Rattle.std.proofs.lemmas.Bool.Decides.{nat_tests}
use Rattle.drm_table.specs.declared.answers.Answer.TheVariants.{Number}
use Rattle.drm_table.specs.declared.calls.Call.TheVariants.{GetCap}
use Rattle.drm_table.specs.declared.events.Event.TheVariants.{Ask}
use Rattle.drm_table.specs.declared.rules.Rule.TheVariants.{BadCap}
use Rattle.drm_model.specs.Calls.{meaning}
use Rattle.drm_model.specs.Change.{changed}
use Rattle.drm_model.specs.Reply.{answer_of}
use Rattle.drm_state.specs.Refinement.{RefinesReply}
use Rattle.drm_state.proofs.Refinements.{denied, carried_on, call_verdict}
use Rattle.drm_device.proofs.capabilities.get_cap.Goals as goal

pub returns-in-1 : goal.returns-in-1
unfolding RefinesReply meaning changed answer_of
returns-in-1 c = rw c.set_number.ensures.number (λ w h a.
    carried_on c.args.state.now w (Ask c.args.client (GetCap c.args.cap)) (Number 1) c.requires (call_verdict w c.args.client (GetCap c.args.cap) a ∙ rw c.in-1.is refl) (rw c.in-1.is refl) h)

pub returns-in-5 : goal.returns-in-5
unfolding RefinesReply meaning changed answer_of
returns-in-5 c = rw c.set_number-in-5.ensures.number (λ w h a.
    carried_on c.args.state.now w (Ask c.args.client (GetCap c.args.cap)) (Number 3) c.requires (call_verdict w c.args.client (GetCap c.args.cap) a ∙ rw c.in-5.is refl) (rw c.in-5.is refl) h)

pub returns-in_default : goal.returns-in_default
unfolding RefinesReply meaning
returns-in_default c = rw c.set_denied.ensures.denied (
    let other : ((c.args.cap == 1) || (c.args.cap == 5)) ≡ false = grind (arith, nat_tests) in
    λ w h a.
    denied c.args.state.now w (Ask c.args.client (GetCap c.args.cap)) BadCap (call_verdict w c.args.client (GetCap c.args.cap) a ∙ rw other refl) h)

use Rattle.std.proofs.Common.{◌≡◌, Some, None, refl, sym, ◌∙◌, subst}
use Rattle.drm_table.specs.declared.answers.Answer.TheVariants.{Done}
use Rattle.drm_table.specs.declared.calls.Call.TheVariants.{StampWrite}
use Rattle.drm_table.specs.declared.events.Event.TheVariants.{Ask}
use Rattle.drm_table.specs.declared.rules.Rule.TheVariants.{NoHandle}
use Rattle.drm_model.specs.Rows.{object_of}
use Rattle.drm_model.specs.Buffers.{with_stamp}
use Rattle.drm_model.specs.Calls.{meaning}
use Rattle.drm_model.specs.Change.{changed}
use Rattle.drm_model.specs.Reply.{answer_of}
use Rattle.drm_state.specs.Parts.{step_number_at}
use Rattle.drm_state.specs.Invariants.{MeetsInvariants}
use Rattle.drm_state.specs.Refinement.{RefinesReply, Represents}
use Rattle.drm_state.proofs.Refinements.{denied, carried_on, call_verdict}
use Rattle.drm_state.proofs.Contents.{holds_it, object_found, key_found, key_there, stamped_represents, stamped_invariants}
use Rattle.drm_client_calls.proofs.stamps.stamp_write.Goals as goal

pub returns-in_default-clause-refines : goal.returns-in_default-clause-refines
unfolding RefinesReply meaning
returns-in_default-clause-refines c = rw c.set_denied.ensures.denied (λ w h a.
    let none =
    holds_it c.args.state.now w h c.args.client c.args.handle _ None c.object_of.ensures.object c.in_default.is in
    denied c.args.state.now w (Ask c.args.client (StampWrite c.args.handle c.args.stamp)) NoHandle (call_verdict w c.args.client (StampWrite c.args.handle c.args.stamp) a ∙ rw none refl) h)

pub set_stamp-requires : goal.set_stamp-requires
set_stamp-requires c =
    key_there c.args.state.now c.args.client c.args.handle c.in-Some.object _ c.requires.invariants
    c.object_of.ensures.object c.in-Some.is

pub returns-clause-invariants : goal.returns-clause-invariants
returns-clause-invariants c =
    subst (λ set. MeetsInvariants (record c.args.state.now { objects = set })) (sym c.set_stamp.ensures)
    (stamped_invariants c.args.state.now c.in-Some.object c.args.stamp c.requires.invariants)

pub returns-clause-refines : goal.returns-clause-refines
unfolding RefinesReply meaning changed answer_of
returns-clause-refines c = rw c.set_done.ensures.done (λ w h a.
    let some =
    holds_it c.args.state.now w h c.args.client c.args.handle _ (Some c.in-Some.object) c.object_of.ensures.object
    c.in-Some.is in
    let object : object_of w c.args.client c.args.handle ≡ _ =
    object_found c.args.state.now w c.requires.invariants h c.args.client c.args.handle c.in-Some.object _
    c.object_of.ensures.object c.in-Some.is in
    let among =
    key_found c.args.client c.args.handle c.in-Some.object c.args.state.now.files.holds
    (sym c.in-Some.is ∙ c.object_of.ensures.object) in
    carried_on (record c.args.state.now { objects = c.set_stamp.new.self }) w
    (Ask c.args.client (StampWrite c.args.handle c.args.stamp)) Done (returns-clause-invariants c)
    (call_verdict w c.args.client (StampWrite c.args.handle c.args.stamp) a ∙ rw some refl) refl
    (rw object (subst (λ set. Represents (record c.args.state.now { objects = set }) (record w { objects = with_stamp (step_number_at c.args.state.now.objects.objects c.in-Some.object) c.args.stamp w.objects })) (sym c.set_stamp.ensures) (stamped_represents c.args.state.now w c.in-Some.object c.args.stamp c.requires.invariants among h))))

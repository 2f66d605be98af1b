use Rattle.std.proofs.Common.{◌≡◌, ◌==◌, [], ◌∷◌, refl, sym, ap, subst, ◌∙◌}
use Rattle.std.specs.Prelude.{IfSome}
use Rattle.std.specs.Option.{is_some}
use Rattle.drm_files.specs.Files.{with_capability}
use Rattle.drm_table.specs.declared.answers.Answer.TheVariants.{Done}
use Rattle.drm_table.specs.declared.calls.Call.TheVariants.{SetClientCap}
use Rattle.drm_table.specs.declared.events.Event.TheVariants.{Ask}
use Rattle.drm_table.specs.declared.rules.Rule.TheVariants.{BadCap}
use Rattle.drm_table.specs.Permit.{check, first_failing}
use Rattle.drm_model.specs.Calls.{meaning}
use Rattle.drm_model.specs.Capabilities.{with_client_capability}
use Rattle.drm_model.specs.Change.{changed}
use Rattle.drm_model.specs.Reply.{answer_of}
use Rattle.drm_state.specs.Invariants.{MeetsInvariants}
use Rattle.drm_state.specs.Parts.{capability_number}
use Rattle.drm_state.specs.Refinement.{RefinesReply, Represents}
use Rattle.drm_state.proofs.Refinements.{denied, carried_on, call_verdict}
use Rattle.drm_client_calls.proofs.Capable.{shown_invariants, shown_represents}
use Rattle.drm_client_calls.proofs.capabilities.set_client_cap.Goals as goal

pub returns-in_default-clause-refines : goal.returns-in_default-clause-refines
unfolding RefinesReply meaning
returns-in_default-clause-refines c = rw c.set_denied.ensures.denied (λ w h admitted.
    denied c.args.state.now w (Ask c.args.client (SetClientCap c.args.cap c.args.value)) BadCap
    (call_verdict w c.args.client (SetClientCap c.args.cap c.args.value) admitted ∙ ap (λ b. first_failing (check BadCap b ∷ [])) (sym c.settable.ensures.settable ∙ ap is_some c.in_default.is)) h)

pub returns-clause-invariants : goal.returns-clause-invariants
returns-clause-invariants c =
    subst (λ fs. MeetsInvariants (record c.args.state.now { files = fs })) (sym c.set_capability.ensures)
    (shown_invariants c.args.state.now c.args.client c.in-Some.capability (c.args.value == 1) c.requires.invariants)

pub returns-clause-refines : goal.returns-clause-refines
unfolding RefinesReply meaning changed answer_of
returns-clause-refines c = rw c.set_done.ensures.done (λ w h admitted.
    let s = c.args.state.now in
    let on = c.args.value == 1 in
    let number : capability_number c.in-Some.capability ≡ c.args.cap =
    subst (λ o. IfSome o (λ k. capability_number k ≡ c.args.cap)) c.in-Some.is c.settable.ensures.number in
    carried_on (record s { files = c.set_capability.new.self }) w
    (Ask c.args.client (SetClientCap c.args.cap c.args.value)) Done (returns-clause-invariants c)
    (call_verdict w c.args.client (SetClientCap c.args.cap c.args.value) admitted ∙ ap (λ b. first_failing (check BadCap b ∷ [])) (sym c.settable.ensures.settable ∙ ap is_some c.in-Some.is))
    refl
    (subst (λ fs. Represents (record s { files = fs }) (record w { clients = with_client_capability c.args.client c.args.cap on w.clients })) (sym c.set_capability.ensures)
    (subst (λ n. Represents (record s { files = with_capability s.files c.args.client c.in-Some.capability on }) (record w { clients = with_client_capability c.args.client n on w.clients })) number (shown_represents s c.args.client c.in-Some.capability on w h))))

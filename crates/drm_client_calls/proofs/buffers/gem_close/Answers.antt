use Rattle.std.proofs.Common.{Some, None, refl, sym, ◌∙◌, subst}
use Rattle.drm_table.specs.declared.answers.Answer.TheVariants.{Done}
use Rattle.drm_table.specs.declared.calls.Call.TheVariants.{GemClose, DestroyDumb}
use Rattle.drm_table.specs.declared.events.Event.TheVariants.{Ask}
use Rattle.drm_table.specs.declared.rules.Rule.TheVariants.{NoHandleToClose}
use Rattle.drm_files.specs.Files.{without_handle_row}
use Rattle.drm_model.specs.Rows.{Rows, is_handle, without}
use Rattle.drm_model.specs.Calls.{meaning}
use Rattle.drm_model.specs.Change.{changed, swept}
use Rattle.drm_model.specs.Reply.{answer_of}
use Rattle.drm_state.specs.Parts.{keys_of, referring_keys}
use Rattle.drm_state.specs.Invariants.{MeetsInvariants, Leaves}
use Rattle.drm_state.specs.Refinement.{RefinesReply, Represents}
use Rattle.drm_state.proofs.Refinements.{denied, carried, call_verdict}
use Rattle.drm_state.proofs.Contents.{holds_it, first_invariants, first_named, handle_gone_invariants}
use Rattle.drm_state.proofs.Sweeps.{handle_gone}
use Rattle.drm_client_calls.proofs.buffers.gem_close.Goals as goal

pub returns-in_default-clause-destroy : goal.returns-in_default-clause-destroy
unfolding RefinesReply meaning
returns-in_default-clause-destroy c = rw c.set_denied.ensures.denied (λ w h a.
    let none =
    holds_it c.args.state.now w h c.args.client c.args.handle _ None c.drop_handle.ensures.object c.in_default.is in
    denied (record c.args.state.now { files = c.drop_handle.new.self }) w (Ask c.args.client (DestroyDumb c.args.handle)) NoHandleToClose (call_verdict w c.args.client (DestroyDumb c.args.handle) a ∙ rw none refl)
    (subst (λ fs. Represents (record c.args.state.now { files = fs }) w) (sym c.in_default.ensures.none) h))

pub returns-in_default-clause-close : goal.returns-in_default-clause-close
unfolding RefinesReply meaning
returns-in_default-clause-close c = rw c.set_denied.ensures.denied (λ w h a.
    let none =
    holds_it c.args.state.now w h c.args.client c.args.handle _ None c.drop_handle.ensures.object c.in_default.is in
    denied (record c.args.state.now { files = c.drop_handle.new.self }) w (Ask c.args.client (GemClose c.args.handle)) NoHandleToClose (call_verdict w c.args.client (GemClose c.args.handle) a ∙ rw none refl)
    (subst (λ fs. Represents (record c.args.state.now { files = fs }) w) (sym c.in_default.ensures.none) h))

pub returns-in_default-clause-invariants : goal.returns-in_default-clause-invariants
returns-in_default-clause-invariants c =
    subst (λ fs. MeetsInvariants (record c.args.state.now { files = fs })) (sym c.in_default.ensures.none)
    c.requires.invariants

pub release-requires : goal.release-requires
release-requires c = record {
  invariants = (
    keys_of (without_handle_row c.args.state.now.files c.args.client c.args.handle).holds,
    referring_keys c.args.state.now,
    first_invariants c.args.state.now c.args.client c.args.handle c.in-Some.object _ c.requires.invariants
        c.drop_handle.ensures.object c.in-Some.is,
  );
}

left : (c : goal.After-set_done)
    → Leaves c.args.state.now.names c.args.state.now.objects (keys_of (without_handle_row c.args.state.now.files c.args.client c.args.handle).holds) (referring_keys c.args.state.now) c.release.new.names c.release.new.objects
left c =
    c.release.ensures.leaves (keys_of (without_handle_row c.args.state.now.files c.args.client c.args.handle).holds)
    (referring_keys c.args.state.now)
    (first_invariants c.args.state.now c.args.client c.args.handle c.in-Some.object _ c.requires.invariants c.drop_handle.ensures.object c.in-Some.is)
    (first_named c.args.state.now c.args.client c.args.handle c.in-Some.object _ c.requires.invariants c.drop_handle.ensures.object c.in-Some.is)

-- the rows without the handle, and what it alone named
gone : (c : goal.After-set_done) (w : Rows) → Represents c.args.state.now w →
    Represents
    (record c.args.state.now { files = c.drop_handle.new.self; names = c.release.new.names; objects = c.release.new.objects })
    (swept (record w { holds = without (is_handle c.args.client c.args.handle) w.holds }))
gone c w h =
    subst
    (λ fs. Represents (record c.args.state.now { files = fs; names = c.release.new.names; objects = c.release.new.objects }) (swept (record w { holds = without (is_handle c.args.client c.args.handle) w.holds })))
    (sym c.drop_handle.ensures.dropped)
    (handle_gone c.args.state.now w c.args.client c.args.handle c.release.new.names c.release.new.objects c.requires.invariants (left c) h)

pub returns-clause-destroy : goal.returns-clause-destroy
unfolding RefinesReply meaning changed answer_of
returns-clause-destroy c = rw c.set_done.ensures.done (λ w h a.
    let some =
    holds_it c.args.state.now w h c.args.client c.args.handle _ (Some c.in-Some.object) c.drop_handle.ensures.object
    c.in-Some.is in
    carried (record c.args.state.now { files = c.drop_handle.new.self; names = c.release.new.names; objects = c.release.new.objects }) w (Ask c.args.client (DestroyDumb c.args.handle)) Done (call_verdict w c.args.client (DestroyDumb c.args.handle) a ∙ rw some refl) refl (gone c w h))

pub returns-clause-close : goal.returns-clause-close
unfolding RefinesReply meaning changed answer_of
returns-clause-close c = rw c.set_done.ensures.done (λ w h a.
    let some =
    holds_it c.args.state.now w h c.args.client c.args.handle _ (Some c.in-Some.object) c.drop_handle.ensures.object
    c.in-Some.is in
    carried (record c.args.state.now { files = c.drop_handle.new.self; names = c.release.new.names; objects = c.release.new.objects }) w (Ask c.args.client (GemClose c.args.handle)) Done (call_verdict w c.args.client (GemClose c.args.handle) a ∙ rw some refl) refl (gone c w h))

pub returns-clause-invariants : goal.returns-clause-invariants
returns-clause-invariants c =
    subst
    (λ fs. MeetsInvariants (record c.args.state.now { files = fs; names = c.release.new.names; objects = c.release.new.objects }))
    (sym c.drop_handle.ensures.dropped)
    (handle_gone_invariants c.args.state.now c.args.client c.args.handle c.release.new.names c.release.new.objects c.requires.invariants (left c))

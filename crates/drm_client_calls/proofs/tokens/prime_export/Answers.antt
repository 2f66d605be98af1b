use Rattle.std.proofs.Common.{ℕ, ◌++◌, [], ◌∷◌, None, refl, sym, ap, ◌∙◌, subst, inl, inr, arith, length-append}
use Rattle.std.specs.Prelude.{unwrap_or}
use Rattle.std.proofs.lemmas.Bool.{false≢true}
use Rattle.std.specs.Option.{is_some}
use Rattle.drm_table.specs.declared.answers.Answer.TheVariants.{Number}
use Rattle.drm_table.specs.declared.calls.Call.TheVariants.{PrimeHandleToFd}
use Rattle.drm_table.specs.declared.events.Event.TheVariants.{Ask}
use Rattle.drm_table.specs.declared.rules.Rule.TheVariants.{NoHandle, Full}
use Rattle.drm_files.specs.Files as files
use Rattle.drm_share.specs.Tokens as tokens
use Rattle.drm_share.specs.ShareFault.{IsFull}
use Rattle.drm_index_array.proofs.Numbers.{among-left}
use Rattle.drm_model.specs.Rows.{Rows, step_number}
use Rattle.drm_model.specs.Sharing.{new_token, with_export_order}
use Rattle.drm_model.specs.Calls.{meaning}
use Rattle.drm_model.specs.Change.{changed, swept}
use Rattle.drm_model.specs.Reply.{answer_of}
use Rattle.drm_model.specs.Run.{IsLonger}
use Rattle.drm_state.specs.Parts.{step_number_at, keys_of, referring_keys}
use Rattle.drm_state.specs.Invariants.{MeetsInvariants}
use Rattle.drm_state.specs.Refinement.{RefinesCall, Represents}
use Rattle.drm_state.proofs.Refinements.{denied, carried, refused, call_verdict}
use Rattle.drm_state.proofs.Contents.{holds_it}
use Rattle.drm_state.proofs.SharedLookups.{next_token_found}
use Rattle.drm_state.proofs.SharedChanges.{exported, exported_invariants, can_refer}
use Rattle.drm_state.proofs.FoundHandle.{among, has_it, object_is, some_free}
use Rattle.drm_client_calls.proofs.tokens.prime_export.Goals as goal

-- a new token makes the list of tokens longer
longer : (w : Rows) (c h o : ℕ)
    → IsLonger w (record w { tokens = w.tokens ++ record { token = new_token w; client = c; object = o } ∷ []; last_token = new_token w; holds = with_export_order c h (step_number w) w.holds })
longer w c h o =
    inr
    (inr (inr (inr (inr (inr (inl (omega (arith, length-append w.tokens (record { token = new_token w; client = c; object = o } ∷ [])))))))))

pub returns-in_default-clause-refines : goal.returns-in_default-clause-refines
unfolding RefinesCall meaning
returns-in_default-clause-refines c = rw c.set_denied.ensures.denied (λ w r a.
    let none =
    holds_it c.args.state.now w r.rows c.args.client c.args.handle _ None c.object_of.ensures.object c.in_default.is
    in
    denied c.args.state.now w (Ask c.args.client (PrimeHandleToFd c.args.handle)) NoHandle (call_verdict w c.args.client (PrimeHandleToFd c.args.handle) a ∙ rw none refl) r.rows)

pub returns-in-Err-Full-clause-refines : goal.returns-in-Err-Full-clause-refines
unfolding RefinesCall meaning
returns-in-Err-Full-clause-refines c = rw c.set_denied-in-Err-Full.ensures.denied (λ w r a.
    let s = c.args.state.now in
    let found = sym c.in-Some.is ∙ c.object_of.ensures.object in
    let one = has_it s c.args.client c.args.handle c.in-Some.object c.requires.precondition.invariants found w r.rows in
    let none =
    next_token_found s w r.rows ∙ c.in-Err-Full.ensures.full.0 (subst IsFull (sym c.in-Err-Full.field-0-is) tt) in
    denied (record s { tokens = c.export.new.self }) w (Ask c.args.client (PrimeHandleToFd c.args.handle)) Full
    (call_verdict w c.args.client (PrimeHandleToFd c.args.handle) a ∙ rw (one, none) refl)
    (subst (λ ts. Represents (record s { tokens = ts }) w) (sym c.in-Err-Full.ensures.err) r.rows))

pub returns-in-Err-NoMemory-clause-refines : goal.returns-in-Err-NoMemory-clause-refines
unfolding RefinesCall meaning changed
returns-in-Err-NoMemory-clause-refines c = λ w r a.
    let s = c.args.state.now in
    let found = sym c.in-Some.is ∙ c.object_of.ensures.object in
    let one = has_it s c.args.client c.args.handle c.in-Some.object c.requires.precondition.invariants found w r.rows in
    let number =
    object_is s c.args.client c.args.handle c.in-Some.object c.requires.precondition.invariants found w r.rows in
    let free =
    ap is_some (next_token_found s w r.rows)
    ∙ some_free (tokens.next_token s.tokens)
    (λ e. subst IsFull c.in-Err-NoMemory.field-0-is (c.in-Err-NoMemory.ensures.full.1 e)) in
    refused (record s { tokens = c.export.new.self }) w (Ask c.args.client (PrimeHandleToFd c.args.handle)) (record {})
    (call_verdict w c.args.client (PrimeHandleToFd c.args.handle) a ∙ rw (one, free) refl)
    (rw number (longer w c.args.client c.args.handle (step_number_at s.objects.objects c.in-Some.object)))
    (subst (λ ts. Represents (record s { tokens = ts }) w) (sym c.in-Err-NoMemory.ensures.err) r.rows)

pub returns-then-not-is_full-clause-refines : goal.returns-then-not-is_full-clause-refines
unfolding RefinesCall meaning changed
returns-then-not-is_full-clause-refines c = λ w r a.
    let s = c.args.state.now in
    let found = sym c.in-Some.is ∙ c.object_of.ensures.object in
    let one = has_it s c.args.client c.args.handle c.in-Some.object c.requires.precondition.invariants found w r.rows in
    let number =
    object_is s c.args.client c.args.handle c.in-Some.object c.requires.precondition.invariants found w r.rows in
    let free =
    ap is_some (next_token_found s w r.rows)
    ∙ some_free (tokens.next_token s.tokens)
    (λ e. false≢true (sym c.if-not-is_full.true ∙ c.is_full.ensures.1 e)) in
    refused s w (Ask c.args.client (PrimeHandleToFd c.args.handle)) (record {})
    (call_verdict w c.args.client (PrimeHandleToFd c.args.handle) a ∙ rw (one, free) refl)
    (rw number (longer w c.args.client c.args.handle (step_number_at s.objects.objects c.in-Some.object)))
    r.rows

pub refer-requires : goal.refer-requires
refer-requires c =
    let s = c.args.state.now in
    let found = sym c.in-Some.is ∙ c.object_of.ensures.object in
    can_refer s c.in-Some.object c.args.step_number c.requires.precondition.invariants
    (among-left (keys_of s.files.holds) (referring_keys s) c.in-Some.object (among s c.args.client c.args.handle c.in-Some.object c.requires.precondition.invariants found))
    c.requires.precondition.later.tokens c.requires.precondition.later.framebuffers c.requires.precondition.fits

pub returns-clause-invariants : goal.returns-clause-invariants
returns-clause-invariants c =
    let s = c.args.state.now in
    let found = sym c.in-Some.is ∙ c.object_of.ensures.object in
    subst (λ fs. MeetsInvariants (record s { files = fs; tokens = c.export.new.self; objects = c.refer.new.self }))
    (sym c.set_prime.ensures)
    (subst (λ ts. MeetsInvariants (record s { files = files.with_export_order s.files c.args.client c.args.handle c.args.step_number; tokens = ts; objects = c.refer.new.self })) (sym c.in-Ok.ensures.ok)
    (subst (λ o. MeetsInvariants (record s { files = files.with_export_order s.files c.args.client c.args.handle c.args.step_number; tokens = tokens.with_token s.tokens (tokens.token c.in-Ok.token c.args.client c.in-Some.object); objects = o })) (sym c.refer.ensures)
    (exported_invariants s c.args.client c.args.handle c.in-Some.object c.args.step_number c.in-Ok.token c.requires.precondition.invariants (among s c.args.client c.args.handle c.in-Some.object c.requires.precondition.invariants found))))

pub returns-clause-refines : goal.returns-clause-refines
unfolding RefinesCall meaning changed answer_of
returns-clause-refines c = rw c.set_number.ensures.number (λ w r a.
    let s = c.args.state.now in
    let found = sym c.in-Some.is ∙ c.object_of.ensures.object in
    let one = has_it s c.args.client c.args.handle c.in-Some.object c.requires.precondition.invariants found w r.rows in
    let number =
    object_is s c.args.client c.args.handle c.in-Some.object c.requires.precondition.invariants found w r.rows in
    let free = next_token_found s w r.rows ∙ c.in-Ok.ensures.given in
    let o = step_number_at s.objects.objects c.in-Some.object in
    let after =
    swept
    (record w { tokens = w.tokens ++ record { token = new_token w; client = c.args.client; object = o } ∷ []; last_token = new_token w; holds = with_export_order c.args.client c.args.handle (step_number w) w.holds })
    in
    carried (record s { files = c.set_prime.new.self; tokens = c.export.new.self; objects = c.refer.new.self }) w
    (Ask c.args.client (PrimeHandleToFd c.args.handle)) (Number c.in-Ok.token)
    (call_verdict w c.args.client (PrimeHandleToFd c.args.handle) a ∙ rw (one, free) refl)
    (rw free refl)
    (rw number
    (subst (λ fs. Represents (record s { files = fs; tokens = c.export.new.self; objects = c.refer.new.self }) after) (sym c.set_prime.ensures)
    (subst (λ ts. Represents (record s { files = files.with_export_order s.files c.args.client c.args.handle c.args.step_number; tokens = ts; objects = c.refer.new.self }) after) (sym c.in-Ok.ensures.ok)
    (subst (λ x. Represents (record s { files = files.with_export_order s.files c.args.client c.args.handle c.args.step_number; tokens = tokens.with_token s.tokens (tokens.token c.in-Ok.token c.args.client c.in-Some.object); objects = x }) after) (sym c.refer.ensures)
    (exported s c.args.client c.args.handle c.in-Some.object c.args.step_number c.in-Ok.token c.requires.precondition.invariants (among s c.args.client c.args.handle c.in-Some.object c.requires.precondition.invariants found) w o r.rows refl (ap (λ f. unwrap_or f 0) free) r.step_number_is))))))

use Rattle.std.proofs.Common.{ℕ, ◌++◌, [], ◌∷◌, None, refl, sym, ap, ◌∙◌, subst, inl, inr, arith, length-append}
use Rattle.std.specs.Prelude.{unwrap_or}
use Rattle.std.proofs.lemmas.Bool.{false≢true}
use Rattle.std.specs.Option.{is_some}
use Rattle.drm_table.specs.declared.answers.Answer.TheVariants.{Number}
use Rattle.drm_table.specs.declared.calls.Call.TheVariants.{GemFlink}
use Rattle.drm_table.specs.declared.events.Event.TheVariants.{Ask}
use Rattle.drm_table.specs.declared.rules.Rule.TheVariants.{NoHandle, Full}
use Rattle.drm_share.specs.Names as names
use Rattle.drm_share.specs.Names.{AreNames, with_name}
use Rattle.drm_share.specs.ShareFault.{IsFull}
use Rattle.drm_model.specs.Rows.{Rows}
use Rattle.drm_model.specs.Sharing.{free_name}
use Rattle.drm_model.specs.Calls.{meaning}
use Rattle.drm_model.specs.Change.{changed, swept}
use Rattle.drm_model.specs.Reply.{answer_of}
use Rattle.drm_model.specs.Run.{IsLonger}
use Rattle.drm_state.specs.Parts.{step_number_at}
use Rattle.drm_state.specs.Invariants.{MeetsInvariants}
use Rattle.drm_state.specs.Refinement.{RefinesCall, Represents}
use Rattle.drm_state.proofs.Refinements.{denied, carried, carried_on, refused, call_verdict}
use Rattle.drm_state.proofs.Contents.{holds_it}
use Rattle.drm_state.proofs.SharedLookups.{free_name_found}
use Rattle.drm_state.proofs.FoundHandle.{among, has_it, object_is, name_is, some_free}
use Rattle.drm_state.proofs.SharedChanges.{flinked, flinked_invariants}
use Rattle.drm_client_calls.proofs.names.gem_flink.Goals as goal

pub returns-in_default-clause-refines : goal.returns-in_default-clause-refines
unfolding RefinesCall meaning
returns-in_default-clause-refines c = rw c.set_denied.ensures.denied (λ w r a.
    let none =
    holds_it c.args.state.now w r.rows c.args.client c.args.handle _ None c.object_of.ensures.object c.in_default.is
    in
    denied c.args.state.now w (Ask c.args.client (GemFlink c.args.handle)) NoHandle (call_verdict w c.args.client (GemFlink c.args.handle) a ∙ rw none refl) r.rows)

-- a new name makes the list of names longer
longer : (w : Rows) (o : ℕ)
    → IsLonger w (record w { names = w.names ++ record { name = unwrap_or (free_name w) 0; object = o } ∷ [] })
longer w o =
    inr
    (inr (inr (inr (inr (inl (omega (arith, length-append w.names (record { name = unwrap_or (free_name w) 0; object = o } ∷ []))))))))

pub returns-in-Some-name_of-clause-refines : goal.returns-in-Some-name_of-clause-refines
unfolding RefinesCall meaning changed answer_of
returns-in-Some-name_of-clause-refines c = rw c.set_number.ensures.number (λ w r a.
    let s = c.args.state.now in
    let found = sym c.in-Some.is ∙ c.object_of.ensures.object in
    let one = has_it s c.args.client c.args.handle c.in-Some.object c.requires.precondition.invariants found w r.rows in
    let number =
    object_is s c.args.client c.args.handle c.in-Some.object c.requires.precondition.invariants found w r.rows in
    let had =
    name_is s c.args.client c.args.handle c.in-Some.object c.requires.precondition.invariants found w r.rows
    c.name_of.ensures.names
    ∙ sym c.name_of.ensures.name ∙ c.in-Some-name_of.is in
    carried_on s w (Ask c.args.client (GemFlink c.args.handle)) (Number c.in-Some-name_of.name)
    c.requires.precondition.invariants
    (call_verdict w c.args.client (GemFlink c.args.handle) a ∙ rw (one, number, had) refl) (rw (number, had) refl)
    (rw (number, had) r.rows))

pub returns-in-Err-Full-clause-refines : goal.returns-in-Err-Full-clause-refines
unfolding RefinesCall meaning
returns-in-Err-Full-clause-refines c = rw c.set_denied-in-Err-Full.ensures.denied (λ w r a.
    let s = c.args.state.now in
    let found = sym c.in-Some.is ∙ c.object_of.ensures.object in
    let one = has_it s c.args.client c.args.handle c.in-Some.object c.requires.precondition.invariants found w r.rows in
    let number =
    object_is s c.args.client c.args.handle c.in-Some.object c.requires.precondition.invariants found w r.rows in
    let had =
    name_is s c.args.client c.args.handle c.in-Some.object c.requires.precondition.invariants found w r.rows
    c.name_of.ensures.names
    ∙ sym c.name_of.ensures.name ∙ c.in_default-name_of.is in
    let none =
    free_name_found s w r.rows ∙ c.in-Err-Full.ensures.full.0 (subst IsFull (sym c.in-Err-Full.field-0-is) tt) in
    denied (record s { names = c.give.new.self }) w (Ask c.args.client (GemFlink c.args.handle)) Full
    (call_verdict w c.args.client (GemFlink c.args.handle) a ∙ rw (one, number, had, none) refl)
    (subst (λ ns. Represents (record s { names = ns }) w) (sym c.in-Err-Full.ensures.err) r.rows))

pub returns-in-Err-NoMemory-clause-refines : goal.returns-in-Err-NoMemory-clause-refines
unfolding RefinesCall meaning changed
returns-in-Err-NoMemory-clause-refines c = λ w r a.
    let s = c.args.state.now in
    let found = sym c.in-Some.is ∙ c.object_of.ensures.object in
    let one = has_it s c.args.client c.args.handle c.in-Some.object c.requires.precondition.invariants found w r.rows in
    let number =
    object_is s c.args.client c.args.handle c.in-Some.object c.requires.precondition.invariants found w r.rows in
    let had =
    name_is s c.args.client c.args.handle c.in-Some.object c.requires.precondition.invariants found w r.rows
    c.name_of.ensures.names
    ∙ sym c.name_of.ensures.name ∙ c.in_default-name_of.is in
    let free =
    ap is_some (free_name_found s w r.rows)
    ∙ some_free (names.free_name s.names)
    (λ e. subst IsFull c.in-Err-NoMemory.field-0-is (c.in-Err-NoMemory.ensures.full.1 e)) in
    refused (record s { names = c.give.new.self }) w (Ask c.args.client (GemFlink c.args.handle)) (record {})
    (call_verdict w c.args.client (GemFlink c.args.handle) a ∙ rw (one, number, had, free) refl)
    (rw (number, had) (longer w (step_number_at s.objects.objects c.in-Some.object)))
    (subst (λ ns. Represents (record s { names = ns }) w) (sym c.in-Err-NoMemory.ensures.err) r.rows)

pub returns-then-not-is_full-clause-refines : goal.returns-then-not-is_full-clause-refines
unfolding RefinesCall meaning changed
returns-then-not-is_full-clause-refines c = λ w r a.
    let s = c.args.state.now in
    let found = sym c.in-Some.is ∙ c.object_of.ensures.object in
    let one = has_it s c.args.client c.args.handle c.in-Some.object c.requires.precondition.invariants found w r.rows in
    let number =
    object_is s c.args.client c.args.handle c.in-Some.object c.requires.precondition.invariants found w r.rows in
    let had =
    name_is s c.args.client c.args.handle c.in-Some.object c.requires.precondition.invariants found w r.rows
    c.name_of.ensures.names
    ∙ sym c.name_of.ensures.name ∙ c.in_default-name_of.is in
    let free =
    ap is_some (free_name_found s w r.rows)
    ∙ some_free (names.free_name s.names)
    (λ e. false≢true (sym c.if-not-is_full.true ∙ c.is_full.ensures.1 e)) in
    refused s w (Ask c.args.client (GemFlink c.args.handle)) (record {})
    (call_verdict w c.args.client (GemFlink c.args.handle) a ∙ rw (one, number, had, free) refl)
    (rw (number, had) (longer w (step_number_at s.objects.objects c.in-Some.object)))
    r.rows

pub returns-clause-invariants : goal.returns-clause-invariants
returns-clause-invariants c =
    let s = c.args.state.now in
    let found = sym c.in-Some.is ∙ c.object_of.ensures.object in
    subst (λ ns. MeetsInvariants (record s { names = ns })) (sym c.in-Ok.ensures.ok)
    (flinked_invariants s c.in-Ok.given c.in-Some.object c.requires.precondition.invariants (among s c.args.client c.args.handle c.in-Some.object c.requires.precondition.invariants found))

pub returns-clause-refines : goal.returns-clause-refines
unfolding RefinesCall meaning changed answer_of
returns-clause-refines c = rw c.set_number-2.ensures.number (λ w r a.
    let s = c.args.state.now in
    let found = sym c.in-Some.is ∙ c.object_of.ensures.object in
    let one = has_it s c.args.client c.args.handle c.in-Some.object c.requires.precondition.invariants found w r.rows in
    let number =
    object_is s c.args.client c.args.handle c.in-Some.object c.requires.precondition.invariants found w r.rows in
    let had =
    name_is s c.args.client c.args.handle c.in-Some.object c.requires.precondition.invariants found w r.rows
    c.name_of.ensures.names
    ∙ sym c.name_of.ensures.name ∙ c.in_default-name_of.is in
    let free = free_name_found s w r.rows ∙ c.in-Ok.ensures.given in
    let o = step_number_at s.objects.objects c.in-Some.object in
    carried (record s { names = c.give.new.self }) w (Ask c.args.client (GemFlink c.args.handle)) (Number c.in-Ok.given)
    (call_verdict w c.args.client (GemFlink c.args.handle) a ∙ rw (one, number, had, free) refl)
    (rw (number, had, free) refl)
    (rw (number, had)
    (subst (λ ns. Represents (record s { names = ns }) (swept (record w { names = w.names ++ record { name = unwrap_or (free_name w) 0; object = o } ∷ [] }))) (sym c.in-Ok.ensures.ok)
    (flinked s c.in-Ok.given c.in-Some.object c.requires.precondition.invariants (among s c.args.client c.args.handle c.in-Some.object c.requires.precondition.invariants found) w o r.rows refl (ap (λ f. unwrap_or f 0) free)))))

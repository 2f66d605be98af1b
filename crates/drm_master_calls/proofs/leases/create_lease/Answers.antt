use Rattle.std.proofs.Common.{◌≡◌, ℕ, ◌≤◌, Bool, not, List, [], ◌∷◌, Option, None, Some, Result, Err, refl, sym, ap, subst, ◌∙◌, inl, inr, arith, length-append}
use Rattle.std.specs.Prelude.{IfSome, unwrap_or}
use Rattle.drm_table.specs.declared.answers.Answer.TheVariants.{Lease}
use Rattle.drm_table.specs.declared.calls.Call.TheVariants.{CreateLease}
use Rattle.drm_table.specs.declared.events.Event.TheVariants.{Ask}
use Rattle.drm_index_array.specs.Orders.{SameRows}
use Rattle.drm_index_array.proofs.FoundInLists.{is_some-false}
use Rattle.drm_table.specs.Permit.{first_failing}
use Rattle.drm_modes.specs.Topology.{object_count}
use Rattle.drm_masters.specs.declared.rows.Member.{Member}
use Rattle.drm_masters.specs.Masters.{MasterSet, AreMasters}
use Rattle.drm_masters.specs.Calls.{lessee}
use Rattle.drm_masters.proofs.NewestMember.{newest_master, newest_unused, member_older}
use Rattle.drm_leases.specs.declared.faults.LeaseFault.{LeaseFault}
use Rattle.drm_leases.specs.declared.rows.Leased.{Leased}
use Rattle.drm_leases.specs.Leases.{LeaseSet, AreLeases}
use Rattle.drm_leases.specs.Agreed.{AreAgreed}
use Rattle.drm_leases.specs.Calls.{Created, with_lease, listed_objects}
use Rattle.drm_leases.proofs.NewestLease.{newest_last, with_last_lease}
use Rattle.drm_leases.specs.Rules.{lease_checks, leased}
use Rattle.drm_model.specs.Magics.{caller_master}
use Rattle.drm_model.specs.Leases as model
use Rattle.drm_model.specs.Leases.{new_lessee, new_lessee_id, new_lease_token}
use Rattle.drm_model.specs.Calls.{meaning}
use Rattle.drm_model.specs.Change.{changed}
use Rattle.drm_model.specs.Reply.{answer_of}
use Rattle.drm_model.proofs.FewLeased.{leased_within, leased_once}
use Rattle.drm_state.specs.declared.state.State.{State}
use Rattle.drm_state.specs.Callers.{as_caller}
use Rattle.drm_state.specs.Invariants.{MeetsInvariants}
use Rattle.drm_state.specs.Refinement.{RefinesCall, Represents}
use Rattle.drm_state.proofs.Represented.{masters_so, leases_so, leases_agree}
use Rattle.drm_state.proofs.Refinements.{denied, refused, carried_on}
use Rattle.drm_state.proofs.Seeing.{topology_is}
use Rattle.drm_state.proofs.Callers.{caller_file, own_master_is}
use Rattle.drm_master_calls.proofs.Asked.{create_verdict, free_lessee_is, leased_is, next_is}
use Rattle.drm_master_calls.proofs.LeaseIds.{same_listed}
use Rattle.drm_master_calls.proofs.OneLeaseMore.{leased_rows, leased_invariants, leased_represents}
use Rattle.drm_master_calls.proofs.leases.create_lease.Goals as goal

-- what the part came to, of the caller that was found
came : {r result : Result Leased LeaseFault} {o : Option Member} {given ids : List ℕ} {on universal : Bool} (s : State) (x : Member) (step : ℕ) (l : LeaseSet) (v : MasterSet)
    → o ≡ Some x → r ≡ result → given ≡ ids → on ≡ universal
    → IfSome o (λ y. Created s.leases s.masters s.modes y.master on given step r l v) →
    Created s.leases s.masters s.modes x.master universal ids step result l v
came {r = r} {result = result} {given = given} {ids = ids} {on = on} s x step l v look is same shown h =
    subst (λ b. Created s.leases s.masters s.modes x.master b ids step result l v) shown
    (subst (λ ids. Created s.leases s.masters s.modes x.master on ids step result l v) same
    (subst (λ r. Created s.leases s.masters s.modes x.master on given step r l v) is
    (subst (λ o. IfSome o (λ y. Created s.leases s.masters s.modes y.master on given step r l v)) look h)))

pub create-requires-clause-new_step_number : goal.create-requires-clause-new_step_number
create-requires-clause-new_step_number c =
    newest_unused c.args.state.now.masters.masters c.args.step_number c.requires.precondition.later.masters

-- the client's master is older
pub create-requires-clause-later : goal.create-requires-clause-later
create-requires-clause-later c =
    member_older c.args.state.now.masters (masters_so c.args.state.now c.requires.precondition.invariants)
    c.args.step_number c.requires.precondition.later.masters c.args.caller.client

pub create-requires-clause-agreed : goal.create-requires-clause-agreed
create-requires-clause-agreed c = leases_agree c.args.state.now c.requires.precondition.invariants

pub returns-in-Ok-clause-invariants : goal.returns-in-Ok-clause-invariants
returns-in-Ok-clause-invariants c =
    let s = c.args.state.now in
    let ids = c.args.ids.now in
    let step = c.args.step_number in
    let x = c.args.caller.member in
    let made = c.in-Ok.made in
    let objects =
    listed_objects s.modes.topology (leased s.leases s.masters s.modes x.master c.args.caller.flags.universal ids)
    in
    let by =
    came s x step c.create.new.self c.create.new.masters (sym c.requires.caller.member) c.in-Ok.is c.ids-listed.ensures.ids
    refl c.create.ensures.created in
    let later = c.requires.precondition.later in
    let masters_are_now = by.4.2 ∙ newest_master s.masters (lessee by.4.0 step x.master made.id) later.masters in
    let leases_are_now =
    by.3 ∙ (λ i. with_lease made.token (by.4.3 i) step x.master objects s.leases)
    ∙ newest_last made.token by.4.0 step x.master objects s.leases later.leases in
    subst (λ (l : LeaseSet). MeetsInvariants (record s { masters = c.create.new.masters; leases = l }))
    (sym leases_are_now)
    (subst (λ (v : MasterSet). MeetsInvariants (record s { masters = v; leases = with_last_lease made.token by.4.0 step x.master objects s.leases })) (sym masters_are_now)
    (leased_invariants s by.4.0 step x.master made.id made.token objects (leases_so s c.requires.precondition.invariants).tokens_rise later.masters later.leases c.requires.precondition.invariants (subst AreMasters masters_are_now c.laws.ensures) (subst AreLeases leases_are_now c.laws-in-Ok.ensures)
    (subst (AreAgreed (with_last_lease made.token by.4.0 step x.master objects s.leases)) masters_are_now (subst (λ (l : LeaseSet). AreAgreed l c.create.new.masters) leases_are_now c.create.ensures.agreed))))

pub returns-in-Ok-clause-refines : goal.returns-in-Ok-clause-refines
unfolding RefinesCall meaning changed answer_of
returns-in-Ok-clause-refines c = λ w r admitted.
    let s = c.args.state.now in
    let t = c.requires.precondition.invariants in
    let h = r.rows in
    let ids = c.args.ids.now in
    let client = c.args.caller.client in
    let step = c.args.step_number in
    let x = c.args.caller.member in
    let made = c.in-Ok.made in
    let look = sym c.requires.caller.member in
    let objects =
    listed_objects s.modes.topology (leased s.leases s.masters s.modes x.master c.args.caller.flags.universal ids)
    in
    let by =
    came s x step c.create.new.self c.create.new.masters look c.in-Ok.is c.ids-listed.ensures.ids refl
    c.create.ensures.created in
    let file = caller_file s (as_caller c.args.caller) c.requires.caller in
    let own = own_master_is s w client c.args.caller.flags x h file look in
    let none = create_verdict s w t h c.args.caller c.requires.caller ids own admitted ∙ by.0 in
    let id_is : new_lessee_id w (caller_master w client) ≡ made.id =
    ap (new_lessee_id w) own ∙ ap (λ o. unwrap_or o 0) (free_lessee_is s w t h x.master ∙ by.1) in
    let token_is : new_lease_token w ≡ made.token = ap (λ o. unwrap_or o 0) (next_is s w t h ∙ by.2) in
    let all = model.leased w client ids in
    let same =
    subst (λ l. SameRows all (listed_objects s.modes.topology l))
    (leased_is s w t h c.args.caller c.requires.caller ids)
    (same_listed s.modes.topology all (leased_once w client ids none) (λ k e. subst (λ topology. (1 ≤ k) × (k ≤ object_count topology)) (topology_is s w h) (leased_within w client ids none k e)))
    in
    let new = record s { masters = c.create.new.masters; leases = c.create.new.self } in
    carried_on new w (Ask client (CreateLease ids)) (Lease made.id made.token) (returns-in-Ok-clause-invariants c) none
    (λ i. Lease (sym id_is i) (sym token_is i))
    (subst (Represents new) (sym (λ i. leased_rows w (own i) (r.step_number_is i) (id_is i) (token_is i) all))
    (subst (λ (l : LeaseSet). Represents (record s { masters = c.create.new.masters; leases = l }) (leased_rows w x.master step made.id made.token all)) (sym (by.3 ∙ (λ i. with_lease made.token (by.4.3 i) step x.master objects s.leases) ∙ newest_last made.token by.4.0 step x.master objects s.leases c.requires.precondition.later.leases))
    (subst (λ (v : MasterSet). Represents (record s { masters = v; leases = with_last_lease made.token by.4.0 step x.master objects s.leases }) (leased_rows w x.master step made.id made.token all)) (sym (by.4.2 ∙ newest_master s.masters (lessee by.4.0 step x.master made.id) c.requires.precondition.later.masters))
    (leased_represents s by.4.0 step x.master made.id made.token objects (leases_so s t).tokens_rise c.requires.precondition.later.masters c.requires.precondition.later.leases w h all same))))

pub returns-in-Err-Denied-clause-refines : goal.returns-in-Err-Denied-clause-refines
unfolding RefinesCall
returns-in-Err-Denied-clause-refines c = rw c.set_denied.ensures.denied (λ w r admitted.
    let s = c.args.state.now in
    let ids = c.args.ids.now in
    let client = c.args.caller.client in
    let x = c.args.caller.member in
    let look = sym c.requires.caller.member in
    let by =
    came s x c.args.step_number c.create.new.self c.create.new.masters look
    (c.in-Err-Denied.is ∙ ap Err c.in-Err-Denied.field-0-is) c.ids-listed.ensures.ids refl c.create.ensures.created in
    let file = caller_file s (as_caller c.args.caller) c.requires.caller in
    let own = own_master_is s w client c.args.caller.flags x r.rows file look in
    denied (record s { masters = c.create.new.masters; leases = c.create.new.self }) w (Ask client (CreateLease ids))
    c.in-Err-Denied.rule
    (create_verdict s w c.requires.precondition.invariants r.rows c.args.caller c.requires.caller ids own admitted ∙ by.0)
    (subst (λ (l : LeaseSet). Represents (record s { masters = c.create.new.masters; leases = l }) w) (sym by.1) (subst (λ (v : MasterSet). Represents (record s { masters = v }) w) (sym by.2) r.rows)))

pub returns-in-Err-NoMemory-clause-refines : goal.returns-in-Err-NoMemory-clause-refines
unfolding RefinesCall meaning changed
returns-in-Err-NoMemory-clause-refines c = λ w r admitted.
    let s = c.args.state.now in
    let ids = c.args.ids.now in
    let client = c.args.caller.client in
    let x = c.args.caller.member in
    let look = sym c.requires.caller.member in
    let by =
    came s x c.args.step_number c.create.new.self c.create.new.masters look
    (c.in-Err-NoMemory.is ∙ ap Err c.in-Err-NoMemory.field-0-is) c.ids-listed.ensures.ids refl c.create.ensures.created in
    let file = caller_file s (as_caller c.args.caller) c.requires.caller in
    let own = own_master_is s w client c.args.caller.flags x r.rows file look in
    refused (record s { masters = c.create.new.masters; leases = c.create.new.self }) w (Ask client (CreateLease ids)) _
    (create_verdict s w c.requires.precondition.invariants r.rows c.args.caller c.requires.caller ids own admitted ∙ by.0)
    (inr (inl (omega (arith, length-append w.masters (new_lessee w (caller_master w client) ∷ [])))))
    (subst (λ (l : LeaseSet). Represents (record s { masters = c.create.new.masters; leases = l }) w) (sym by.1) (subst (λ (v : MasterSet). Represents (record s { masters = v }) w) (sym by.2) r.rows))

pub refusal-requires-clause-agreed : goal.refusal-requires-clause-agreed
refusal-requires-clause-agreed c = leases_agree c.args.state.now c.requires.precondition.invariants

pub returns-then-is_none-clause-refines : goal.returns-then-is_none-clause-refines
unfolding RefinesCall meaning changed
returns-then-is_none-clause-refines c = λ w r admitted.
    let s = c.args.state.now in
    let ids = c.args.ids.now in
    let client = c.args.caller.client in
    let x = c.args.caller.member in
    let look = sym c.requires.caller.member in
    let file = caller_file s (as_caller c.args.caller) c.requires.caller in
    let own = own_master_is s w client c.args.caller.flags x r.rows file look in
    let none : first_failing (lease_checks s.leases s.masters s.modes x.master c.args.caller.flags.universal ids) ≡ None =
    ap (λ ids. first_failing (lease_checks s.leases s.masters s.modes x.master c.args.caller.flags.universal ids)) (sym c.ids-listed.ensures.ids)
    ∙ sym c.refusal.ensures ∙ is_some-false c.refusal.result (c.is_none.ensures ∙ ap not c.if-is_none.true) in
    refused s w (Ask client (CreateLease ids)) _
    (create_verdict s w c.requires.precondition.invariants r.rows c.args.caller c.requires.caller ids own admitted ∙ none)
    (inr (inl (omega (arith, length-append w.masters (new_lessee w (caller_master w client) ∷ []))))) r.rows

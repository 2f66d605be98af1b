use Rattle.std.proofs.Common.{◌≡◌, ℕ, Bool, true, false, not, ◌&&◌, Option, None, Some, Result, Ok, Err, refl, sym, ap, subst, ◌∙◌, inl, inr, arith, length-append, [], ◌∷◌}
use Rattle.std.specs.Prelude.{IfSome}
use Rattle.std.specs.Option.{is_none, option_map_or}
use Rattle.std.proofs.lemmas.Bool.{and_parts, not-true}
use Rattle.drm_table.specs.Permit.{first_failing}
use Rattle.drm_table.specs.declared.answers.Answer.TheVariants.{Done}
use Rattle.drm_table.specs.declared.calls.Call.TheVariants.{SetMaster}
use Rattle.drm_table.specs.declared.events.Event.TheVariants.{Ask}
use Rattle.drm_masters.specs.Masters.{MasterSet, AreMasters, is_current_member, is_option, owner_of}
use Rattle.drm_masters.specs.declared.faults.SetDone.{SetDone}
use Rattle.drm_masters.specs.declared.faults.SetFault.{SetFault}
use Rattle.drm_masters.specs.declared.rows.Member.{Member}
use Rattle.drm_state.specs.declared.state.State.{State}
use Rattle.drm_masters.specs.Calls.{SetOf, set_checks, sets_new}
use Rattle.drm_masters.proofs.NewestMember.{newest_unused}
use Rattle.drm_model.specs.Rows.{step_number}
use Rattle.drm_model.specs.Magics.{is_current, is_master, mastered}
use Rattle.drm_model.specs.Masters.{new_master}
use Rattle.drm_model.specs.Run.{IsLonger}
use Rattle.drm_model.specs.Change.{changed, swept}
use Rattle.drm_model.specs.Calls.{meaning}
use Rattle.drm_model.specs.Reply.{answer_of}
use Rattle.drm_state.specs.Callers.{as_caller}
use Rattle.drm_state.specs.Invariants.{MeetsInvariants}
use Rattle.drm_state.specs.Refinement.{RefinesCall, Represents}
use Rattle.drm_state.proofs.Refinements.{denied, refused, carried, carried_on}
use Rattle.drm_state.proofs.Callers.{caller_root, caller_file, same_client, its_master}
use Rattle.drm_master_calls.proofs.Callers.{set_verdict, current_is, master_is}
use Rattle.drm_master_calls.proofs.Changed.{device_invariants, device_represents}
use Rattle.drm_master_calls.proofs.Remade.{own_rows, last_remade, remade_invariants, remade_represents}
use Rattle.drm_files.specs.Files.{with_authenticated}
use Rattle.drm_master_calls.proofs.owners.set_master.Goals as goal

-- what the part came to, of the caller that was found
came : {r result : Result SetDone SetFault} {o : Option Member} (s : State) (x : Member) (root : Bool) (step : ℕ) (new : MasterSet)
    → o ≡ Some x → r ≡ result → IfSome o (λ y. SetOf s.masters y root step r new)
    → SetOf s.masters x root step result new
came {r = r} s x root step new look is h =
    subst (λ v. SetOf s.masters x root step v new) is
    (subst (λ o. IfSome o (λ y. SetOf s.masters y root step r new)) look h)

pub set-requires-clause-new_step_number : goal.set-requires-clause-new_step_number
set-requires-clause-new_step_number c =
    newest_unused c.args.state.now.masters.masters c.args.step_number c.requires.precondition.later.masters

pub returns-in-Ok-Already-clause-invariants : goal.returns-in-Ok-Already-clause-invariants
returns-in-Ok-Already-clause-invariants c =
    let s = c.args.state.now in
    let look = sym c.requires.caller.member in
    let x = c.args.caller.member in
    let by =
    came s x c.args.caller.flags.root c.args.step_number c.set.new.self look
    (c.in-Ok-Already.is ∙ ap Ok c.in-Ok-Already.field-0-is) c.set.ensures.set in
    subst (λ v. MeetsInvariants (record s { masters = v })) (sym by.1.1) c.requires.precondition.invariants

pub returns-in-Ok-Already-clause-refines : goal.returns-in-Ok-Already-clause-refines
unfolding RefinesCall meaning changed answer_of
returns-in-Ok-Already-clause-refines c = rw c.set_done-in-Ok-Already.ensures.done (λ w r admitted.
    let s = c.args.state.now in
    let look = sym c.requires.caller.member in
    let x = c.args.caller.member in
    let by =
    came s x c.args.caller.flags.root c.args.step_number c.set.new.self look
    (c.in-Ok-Already.is ∙ ap Ok c.in-Ok-Already.field-0-is) c.set.ensures.set in
    let file = caller_file s (as_caller c.args.caller) c.requires.caller in
    let checks =
    set_verdict s w c.args.caller.client c.args.caller.flags x r.rows file look c.args.caller.flags.root
    (caller_root s (as_caller c.args.caller) c.requires.caller) admitted
    ∙ by.0 in
    let current : is_current w c.args.caller.client ≡ true =
    current_is s w c.args.caller.client c.args.caller.flags x r.rows file look ∙ by.1.0 in
    carried_on (record s { masters = c.set.new.self }) w (Ask c.args.caller.client SetMaster) Done
    (returns-in-Ok-Already-clause-invariants c) checks refl
    (subst (λ b. Represents (record s { masters = c.set.new.self }) (mastered w c.args.caller.client b (is_master w c.args.caller.client))) (sym current) (subst (λ v. Represents (record s { masters = v }) w) (sym by.1.1) r.rows)))

pub returns-in-Ok-Again-clause-invariants : goal.returns-in-Ok-Again-clause-invariants
returns-in-Ok-Again-clause-invariants c =
    let s = c.args.state.now in
    let look = sym c.requires.caller.member in
    let x = c.args.caller.member in
    let by =
    came s x c.args.caller.flags.root c.args.step_number c.set.new.self look
    (c.in-Ok-Again.is ∙ ap Ok c.in-Ok-Again.field-0-is) c.set.ensures.set in
    subst (λ v. MeetsInvariants (record s { masters = v })) (sym by.1.2)
    (device_invariants s (Some x.master) c.requires.precondition.invariants (subst AreMasters by.1.2 c.laws-in-Ok-Again.ensures))

pub returns-in-Ok-Again-clause-refines : goal.returns-in-Ok-Again-clause-refines
unfolding RefinesCall meaning changed answer_of
returns-in-Ok-Again-clause-refines c = rw c.set_done-in-Ok-Again.ensures.done (λ w r admitted.
    let s = c.args.state.now in
    let look = sym c.requires.caller.member in
    let x = c.args.caller.member in
    let by =
    came s x c.args.caller.flags.root c.args.step_number c.set.new.self look
    (c.in-Ok-Again.is ∙ ap Ok c.in-Ok-Again.field-0-is) c.set.ensures.set in
    let file = caller_file s (as_caller c.args.caller) c.requires.caller in
    let checks =
    set_verdict s w c.args.caller.client c.args.caller.flags x r.rows file look c.args.caller.flags.root
    (caller_root s (as_caller c.args.caller) c.requires.caller) admitted
    ∙ by.0 in
    let current : is_current w c.args.caller.client ≡ false =
    current_is s w c.args.caller.client c.args.caller.flags x r.rows file look ∙ by.1.0 in
    let own : is_master w c.args.caller.client ≡ true =
    master_is s w c.args.caller.client c.args.caller.flags x r.rows file look ∙ by.1.1 in
    carried_on (record s { masters = c.set.new.self }) w (Ask c.args.caller.client SetMaster) Done
    (returns-in-Ok-Again-clause-invariants c) checks refl
    (subst (λ b. Represents (record s { masters = c.set.new.self }) (mastered w c.args.caller.client b (is_master w c.args.caller.client))) (sym current)
    (subst (λ b. Represents (record s { masters = c.set.new.self }) (mastered w c.args.caller.client false b)) (sym own)
    (subst (λ d. Represents (record s { masters = c.set.new.self }) (record w { device_master = d })) (sym (its_master s w c.args.caller.client c.args.caller.flags x r.rows file look))
    (subst (λ v. Represents (record s { masters = v }) (record w { device_master = Some x.master })) (sym by.1.2) (device_represents s w (Some x.master) r.rows))))))

pub returns-in-Ok-Made-clause-invariants : goal.returns-in-Ok-Made-clause-invariants
returns-in-Ok-Made-clause-invariants c =
    let s = c.args.state.now in
    let look = sym c.requires.caller.member in
    let x = c.args.caller.member in
    let by =
    came s x c.args.caller.flags.root c.args.step_number c.set.new.self look
    (c.in-Ok-Made.is ∙ ap Ok c.in-Ok-Made.field-0-is) c.set.ensures.set in
    let same = same_client s.masters.members c.args.caller.client x look in
    subst (λ fs. MeetsInvariants (record s { files = fs; masters = c.set.new.self }))
    (sym (c.set_authenticated.ensures ∙ ap (with_authenticated s.files) (sym same.0)))
    (subst (λ v. MeetsInvariants (record s { files = with_authenticated s.files x.client; masters = v })) (sym (by.1.2.2 ∙ last_remade x.client by.1.2.0 c.args.step_number s.masters c.requires.precondition.later.masters))
    (remade_invariants s x by.1.2.0 c.args.step_number c.requires.precondition.invariants c.requires.precondition.later.leases.tokens (subst AreMasters (by.1.2.2 ∙ last_remade x.client by.1.2.0 c.args.step_number s.masters c.requires.precondition.later.masters) c.laws.ensures) same.1 by.1.1))

pub returns-in-Ok-Made-clause-refines : goal.returns-in-Ok-Made-clause-refines
unfolding RefinesCall meaning changed answer_of
returns-in-Ok-Made-clause-refines c = rw c.set_done.ensures.done (λ w r admitted.
    let s = c.args.state.now in
    let look = sym c.requires.caller.member in
    let x = c.args.caller.member in
    let by =
    came s x c.args.caller.flags.root c.args.step_number c.set.new.self look
    (c.in-Ok-Made.is ∙ ap Ok c.in-Ok-Made.field-0-is) c.set.ensures.set in
    let file = caller_file s (as_caller c.args.caller) c.requires.caller in
    let checks =
    set_verdict s w c.args.caller.client c.args.caller.flags x r.rows file look c.args.caller.flags.root
    (caller_root s (as_caller c.args.caller) c.requires.caller) admitted
    ∙ by.0 in
    let current : is_current w c.args.caller.client ≡ false =
    current_is s w c.args.caller.client c.args.caller.flags x r.rows file look ∙ by.1.0 in
    let own : is_master w c.args.caller.client ≡ false =
    master_is s w c.args.caller.client c.args.caller.flags x r.rows file look ∙ by.1.1 in
    let same = same_client s.masters.members c.args.caller.client x look in
    let new = record s { files = c.set_authenticated.new.self; masters = c.set.new.self } in
    carried new w (Ask c.args.caller.client SetMaster) Done checks refl
    (subst (λ b. Represents new (swept (mastered w c.args.caller.client b (is_master w c.args.caller.client)))) (sym current)
    (subst (λ b. Represents new (swept (mastered w c.args.caller.client false b))) (sym own)
    (subst (λ n. Represents new (swept (own_rows w c.args.caller.client n))) (sym r.step_number_is)
    (subst (λ fs. Represents (record s { files = fs; masters = c.set.new.self }) (swept (own_rows w c.args.caller.client c.args.step_number))) (sym c.set_authenticated.ensures)
    (subst (λ n. Represents (record s { files = with_authenticated s.files n; masters = c.set.new.self }) (swept (own_rows w n c.args.step_number))) same.0
    (subst (λ v. Represents (record s { files = with_authenticated s.files x.client; masters = v }) (swept (own_rows w x.client c.args.step_number))) (sym (by.1.2.2 ∙ last_remade x.client by.1.2.0 c.args.step_number s.masters c.requires.precondition.later.masters))
    (remade_represents s x by.1.2.0 c.args.step_number c.requires.precondition.invariants c.requires.precondition.later.leases.tokens (subst AreMasters (by.1.2.2 ∙ last_remade x.client by.1.2.0 c.args.step_number s.masters c.requires.precondition.later.masters) c.laws.ensures) same.1 by.1.1 w r.rows))))))))

pub returns-in-Err-Denied-clause-invariants : goal.returns-in-Err-Denied-clause-invariants
returns-in-Err-Denied-clause-invariants c =
    let s = c.args.state.now in
    let look = sym c.requires.caller.member in
    let x = c.args.caller.member in
    let by =
    came s x c.args.caller.flags.root c.args.step_number c.set.new.self look
    (c.in-Err-Denied.is ∙ ap Err c.in-Err-Denied.field-0-is) c.set.ensures.set in
    subst (λ v. MeetsInvariants (record s { masters = v })) (sym by.1) c.requires.precondition.invariants

pub returns-in-Err-Denied-clause-refines : goal.returns-in-Err-Denied-clause-refines
unfolding RefinesCall meaning
returns-in-Err-Denied-clause-refines c = rw (c.set_denied.ensures.denied, c.in-Err-Denied.field-0-is) (λ w r admitted.
    let s = c.args.state.now in
    let look = sym c.requires.caller.member in
    let x = c.args.caller.member in
    let by =
    came s x c.args.caller.flags.root c.args.step_number c.set.new.self look
    (c.in-Err-Denied.is ∙ ap Err c.in-Err-Denied.field-0-is) c.set.ensures.set in
    let file = caller_file s (as_caller c.args.caller) c.requires.caller in
    let checks =
    set_verdict s w c.args.caller.client c.args.caller.flags x r.rows file look c.args.caller.flags.root
    (caller_root s (as_caller c.args.caller) c.requires.caller) admitted
    ∙ by.0 in
    denied (record s { masters = c.set.new.self }) w (Ask c.args.caller.client SetMaster) c.in-Err-Denied.rule checks (subst (λ v. Represents (record s { masters = v }) w) (sym by.1) r.rows))

pub returns-in-Err-NoMemory-clause-invariants : goal.returns-in-Err-NoMemory-clause-invariants
returns-in-Err-NoMemory-clause-invariants c =
    let s = c.args.state.now in
    let look = sym c.requires.caller.member in
    let x = c.args.caller.member in
    let by =
    came s x c.args.caller.flags.root c.args.step_number c.set.new.self look
    (c.in-Err-NoMemory.is ∙ ap Err c.in-Err-NoMemory.field-0-is) c.set.ensures.set in
    subst (λ v. MeetsInvariants (record s { masters = v })) (sym by.3) c.requires.precondition.invariants

pub returns-in-Err-NoMemory-clause-refines : goal.returns-in-Err-NoMemory-clause-refines
unfolding RefinesCall meaning changed
returns-in-Err-NoMemory-clause-refines c = λ w r admitted.
    let s = c.args.state.now in
    let look = sym c.requires.caller.member in
    let x = c.args.caller.member in
    let by =
    came s x c.args.caller.flags.root c.args.step_number c.set.new.self look
    (c.in-Err-NoMemory.is ∙ ap Err c.in-Err-NoMemory.field-0-is) c.set.ensures.set in
    let file = caller_file s (as_caller c.args.caller) c.requires.caller in
    let checks =
    set_verdict s w c.args.caller.client c.args.caller.flags x r.rows file look c.args.caller.flags.root
    (caller_root s (as_caller c.args.caller) c.requires.caller) admitted
    ∙ by.0 in
    let current : is_current w c.args.caller.client ≡ false =
    current_is s w c.args.caller.client c.args.caller.flags x r.rows file look ∙ by.1 in
    let own : is_master w c.args.caller.client ≡ false =
    master_is s w c.args.caller.client c.args.caller.flags x r.rows file look ∙ by.2 in
    refused (record s { masters = c.set.new.self }) w (Ask c.args.caller.client SetMaster) _ checks
    (subst (λ b. IsLonger w (mastered w c.args.caller.client b (is_master w c.args.caller.client))) (sym current) (subst (λ b. IsLonger w (mastered w c.args.caller.client false b)) (sym own) (inr (inl (omega (arith, length-append w.masters (new_master (step_number w) ∷ [])))))))
    (subst (λ v. Represents (record s { masters = v }) w) (sym by.3) r.rows)

-- an option without a value is `None`
none : {X : Type 0} (o : Option X) → is_none o ≡ true → o ≡ None
none None h = refl
none (Some x) h = absurd (let e : false ≡ true = h in cc)

-- SET_MASTER makes a new master only if the client is no master and no rule denies it
allowed : (v : MasterSet) (x : Member) (root : Bool) → sets_new v x root ≡ true
    → (first_failing (set_checks v x root) ≡ None) × (is_current_member v x ≡ false) × (x.is_master ≡ false)
unfolding sets_new
allowed v x root h =
    let both = and_parts (not x.is_master) (is_none (first_failing (set_checks v x root))) h in
    let own = not-true x.is_master both.0 in
    (none _ both.1, ap (λ b. b && is_option (owner_of v.masters x.master) v.device_master) own, own)

pub returns-then-sets_new-clause-refines : goal.returns-then-sets_new-clause-refines
unfolding RefinesCall meaning changed
returns-then-sets_new-clause-refines c = λ w r admitted.
    let s = c.args.state.now in
    let look = sym c.requires.caller.member in
    let x = c.args.caller.member in
    let makes : sets_new s.masters x c.args.caller.flags.root ≡ true =
    ap (λ o. option_map_or (λ (y : Member). sets_new s.masters y c.args.caller.flags.root) o false) c.requires.caller.member
    ∙ sym c.sets_new.ensures ∙ c.if-sets_new.true in
    let by = allowed s.masters x c.args.caller.flags.root makes in
    let file = caller_file s (as_caller c.args.caller) c.requires.caller in
    let checks =
    set_verdict s w c.args.caller.client c.args.caller.flags x r.rows file look c.args.caller.flags.root
    (caller_root s (as_caller c.args.caller) c.requires.caller) admitted
    ∙ by.0 in
    let current : is_current w c.args.caller.client ≡ false =
    current_is s w c.args.caller.client c.args.caller.flags x r.rows file look ∙ by.1 in
    let own : is_master w c.args.caller.client ≡ false =
    master_is s w c.args.caller.client c.args.caller.flags x r.rows file look ∙ by.2 in
    refused s w (Ask c.args.caller.client SetMaster) _ checks
    (subst (λ b. IsLonger w (mastered w c.args.caller.client b (is_master w c.args.caller.client))) (sym current) (subst (λ b. IsLonger w (mastered w c.args.caller.client false b)) (sym own) (inr (inl (omega (arith, length-append w.masters (new_master (step_number w) ∷ [])))))))
    r.rows

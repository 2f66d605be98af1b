use Rattle.std.proofs.Common.{◌≡◌, ℕ, true, false, [], ◌∷◌, Option, None, Some, find, refl, sym, ap, subst, ◌∙◌}
use Rattle.std.specs.Option.{is_some, option_map}
use Rattle.drm_table.specs.declared.answers.Answer.TheVariants.{Done}
use Rattle.drm_table.specs.declared.calls.Call.TheVariants.{RevokeLease}
use Rattle.drm_table.specs.declared.events.Event.TheVariants.{Ask}
use Rattle.drm_table.specs.declared.rules.Rule.TheVariants.{NoLessee, NotYourLessee}
use Rattle.drm_table.specs.Permit.{check, first_failing}
use Rattle.std.specs.List.{AllByRecursion}
use Rattle.std.specs.Prelude.{IfSome}
use Rattle.std.proofs.lemmas.Option.{none-some, same_Some}
use Rattle.drm_index_array.proofs.Rising.{found, all_found}
use Rattle.drm_masters.specs.declared.rows.Master.{Master}
use Rattle.drm_masters.specs.declared.rows.Member.{Member}
use Rattle.drm_masters.specs.Masters as masters
use Rattle.drm_masters.specs.Masters.{MasterSet, AreMasters}
use Rattle.drm_leases.specs.Leases.{LeaseSet, AreLeases}
use Rattle.drm_leases.specs.Calls as leases
use Rattle.drm_masters.specs.Calls as calls
use Rattle.drm_leases.proofs.MasterKeys.{keyed_step_number, keyed_there, number_found}
use Rattle.drm_model.specs.Leases.{ended, lessee_master}
use Rattle.drm_model.specs.Calls.{meaning}
use Rattle.drm_model.specs.Change.{changed, swept}
use Rattle.drm_model.specs.Reply.{answer_of}
use Rattle.drm_state.specs.Callers.{as_caller}
use Rattle.drm_state.specs.Invariants.{MeetsInvariants}
use Rattle.drm_state.specs.Refinement.{RefinesReply, Represents}
use Rattle.drm_state.proofs.Represented.{masters_so, leases_agree}
use Rattle.drm_state.proofs.Refinements.{denied, carried}
use Rattle.drm_state.proofs.Callers.{caller_file, own_master_is}
use Rattle.drm_master_calls.proofs.LesseeRows.{lessee_step_number, revoke_verdict, none_there, caller_master_there}
use Rattle.drm_master_calls.proofs.Revoked.{revoked, opened_below, revoked_invariants, revoked_represents}
use Rattle.drm_master_calls.proofs.leases.revoke_lease.Goals as goal

pub unreachable-requires : goal.unreachable-requires
unreachable-requires c =
    none_there _
    (caller_master_there c.args.state.now c.requires.invariants c.args.caller.client c.args.caller.member (sym c.requires.caller.member))
    (sym c.master.ensures.master ∙ c.in_default.is)

-- its key is that of a master
lessee_there : (v : MasterSet) (n id lessee : ℕ)
    → Some lessee ≡ option_map (λ (x : Master). x.key) (masters.lessee_of v.masters n id)
    → IfSome (masters.lessee_of v.masters n id) (λ x. masters.IsKeyOf v.masters x.step_number x.key)
    → masters.is_there v.masters lessee ≡ true
lessee_there v n id lessee e found_by = by_row (masters.lessee_of v.masters n id) e found_by
  where
    by_row : (o : Option Master) → Some lessee ≡ option_map (λ (y : Master). y.key) o
        → IfSome o (λ y. masters.IsKeyOf v.masters y.step_number y.key) → masters.is_there v.masters lessee ≡ true
    by_row None k h = absurd (none-some lessee (sym k))
    by_row (Some y) k h =
        ap (masters.is_there v.masters) (same_Some lessee y.key k) ∙ keyed_there v.masters y.step_number y.key h

-- no lessee was found
none_looked : (v : MasterSet) (m key id : ℕ) (r : Option ℕ) → masters.IsKeyOf v.masters m key
    → r ≡ option_map (λ (x : Master). x.key) (masters.lessee_of v.masters (masters.step_number_at v.masters key) id)
    → r ≡ None → masters.lessee_of v.masters m id ≡ None
none_looked v m key id r keyed e is =
    none (masters.lessee_of v.masters m id)
    (ap (λ n. option_map (λ (x : Master). x.key) (masters.lessee_of v.masters n id)) (sym (keyed_step_number v.masters m key keyed)) ∙ sym e ∙ is)
  where
    none : (o : Option Master) → option_map (λ (x : Master). x.key) o ≡ None → o ≡ None
    none None k = refl
    none (Some x) k = absurd (let n : Some x.key ≡ None = k in cc)

-- the lessee that was looked for is found by its key
looked : (v : MasterSet) → AreMasters v → (m key id lessee : ℕ) (x : Master) → masters.IsKeyOf v.masters m key
    → Some lessee ≡ option_map (λ (x : Master). x.key) (masters.lessee_of v.masters (masters.step_number_at v.masters key) id)
    → IfSome (masters.lessee_of v.masters (masters.step_number_at v.masters key) id) (λ x. masters.IsKeyOf v.masters x.step_number x.key)
    → find (masters.is_key lessee) v.masters ≡ Some x → masters.lessee_of v.masters m id ≡ Some x
looked v are m key id lessee x keyed e found_by at =
    ap (λ n. masters.lessee_of v.masters n id) (sym number)
    ∙ by_row (masters.lessee_of v.masters (masters.step_number_at v.masters key) id) refl e found_by
  where
    number : masters.step_number_at v.masters key ≡ m
    number = keyed_step_number v.masters m key keyed

    each : AllByRecursion (λ (y : Master). masters.master_at v.masters y.step_number ≡ Some y) v.masters
    each = all_found (λ (y : Master). y.step_number) v.masters are.masters_rise

    by_row : (o : Option Master) → masters.lessee_of v.masters (masters.step_number_at v.masters key) id ≡ o
        → Some lessee ≡ option_map (λ (y : Master). y.key) o
        → IfSome o (λ y. masters.IsKeyOf v.masters y.step_number y.key) → o ≡ Some x
    by_row None o k h = absurd (none-some lessee (sym k))
    by_row (Some y) o k h =
        let same : y.key ≡ lessee = sym (same_Some lessee y.key k) in
        let numbers : x.step_number ≡ y.step_number =
        same_Some x.step_number y.step_number
        (sym (ap (option_map (λ (z : Master). z.step_number)) at) ∙ ap (λ n. option_map (λ (z : Master). z.step_number) (find (masters.is_key n) v.masters)) (sym same) ∙ h)
        in
        sym
        (found (masters.is_lessee_of v.masters (masters.owner_of v.masters (masters.step_number_at v.masters key)) id) (λ (z : Master). masters.master_at v.masters z.step_number ≡ Some z) y v.masters each o).1
        ∙ ap (masters.master_at v.masters) (sym numbers)
        ∙
        (found (masters.is_key lessee) (λ (z : Master). masters.master_at v.masters z.step_number ≡ Some z) x v.masters each at).1

pub returns-in_default-lessee-clause-refines : goal.returns-in_default-lessee-clause-refines
unfolding RefinesReply
returns-in_default-lessee-clause-refines c = rw c.set_denied.ensures.denied (λ w h admitted.
    let s = c.args.state.now in
    let client = c.args.caller.client in
    let x = c.args.caller.member in
    let file = caller_file s (as_caller c.args.caller) c.requires.caller in
    let own = own_master_is s w client c.args.caller.flags x h file (sym c.requires.caller.member) in
    let none =
    none_looked s.masters x.master c.in-Some.master.key c.args.lessee c.lessee.result c.in-Some.ensures.keyed
    c.lessee.ensures.lessee c.in_default-lessee.is in
    denied s w (Ask client (RevokeLease c.args.lessee)) NoLessee (revoke_verdict s w h client x.master c.args.lessee None own admitted none) h)

pub returns-then-not-is_lent_by-clause-refines : goal.returns-then-not-is_lent_by-clause-refines
unfolding RefinesReply
returns-then-not-is_lent_by-clause-refines c = rw c.set_denied-then-not-is_lent_by.ensures.denied (λ w h admitted.
    let s = c.args.state.now in
    let client = c.args.caller.client in
    let x = c.args.caller.member in
    let lessee = c.in-Some-of_key.found in
    let file = caller_file s (as_caller c.args.caller) c.requires.caller in
    let own = own_master_is s w client c.args.caller.flags x h file (sym c.requires.caller.member) in
    let one =
    looked s.masters (masters_so s c.requires.invariants) x.master c.in-Some.master.key c.args.lessee
    c.in-Some-lessee.key lessee c.in-Some.ensures.keyed (sym c.in-Some-lessee.is ∙ c.lessee.ensures.lessee)
    c.lessee.ensures.keyed (sym c.of_key.ensures ∙ c.in-Some-of_key.is) in
    denied s w (Ask client (RevokeLease c.args.lessee)) NotYourLessee
    (revoke_verdict s w h client x.master c.args.lessee (Some lessee) own admitted one ∙ ap (λ b. first_failing (check NotYourLessee b ∷ [])) (sym c.is_lent_by.ensures ∙ c.if-not-is_lent_by.true)) h)

pub unreachable-requires-in_default-of_key : goal.unreachable-requires-in_default-of_key
unreachable-requires-in_default-of_key c =
    let v = c.args.state.now.masters in
    none_there (find (masters.is_key c.in-Some-lessee.key) v.masters)
    (lessee_there v (masters.step_number_at v.masters c.in-Some.master.key) c.args.lessee c.in-Some-lessee.key (sym c.in-Some-lessee.is ∙ c.lessee.ensures.lessee) c.lessee.ensures.keyed)
    (sym c.of_key.ensures ∙ c.in_default-of_key.is)

pub revoke-requires-clause-there : goal.revoke-requires-clause-there
revoke-requires-clause-there c = ap is_some (sym c.of_key.ensures ∙ c.in-Some-of_key.is)

pub revoke-requires-clause-agreed : goal.revoke-requires-clause-agreed
revoke-requires-clause-agreed c = leases_agree c.args.state.now c.requires.invariants

pub returns-clause-invariants : goal.returns-clause-invariants
returns-clause-invariants c =
    let s = c.args.state.now in
    let top = c.in-Some-of_key.found.step_number in
    let number : masters.step_number_at s.masters.masters c.in-Some-lessee.key ≡ top =
    number_found s.masters.masters c.in-Some-lessee.key c.in-Some-of_key.found
    (sym c.of_key.ensures ∙ c.in-Some-of_key.is) in
    let now : c.revoke.new.masters ≡ (revoked s top).masters =
    opened_below s top c.requires.invariants c.revoke.new.masters
    (subst (λ n. c.revoke.new.masters ≡ masters.swept (calls.released (leases.is_opened_under s.leases.tokens s.masters.masters n) s.masters)) number c.revoke.ensures.masters)
    in
    let left : c.revoke.new.self ≡ leases.ended s.masters.masters top s.leases =
    subst (λ n. c.revoke.new.self ≡ leases.ended s.masters.masters n s.leases) number c.revoke.ensures.leases in
    subst (λ (l : LeaseSet). MeetsInvariants (record s { masters = c.revoke.new.masters; leases = l })) (sym left)
    (subst (λ (v : MasterSet). MeetsInvariants (record s { masters = v; leases = leases.ended s.masters.masters top s.leases })) (sym now)
    (revoked_invariants s top c.requires.invariants (subst AreMasters now c.laws.ensures) (subst AreLeases left c.laws-2.ensures)))

pub returns-clause-refines : goal.returns-clause-refines
unfolding RefinesReply meaning changed answer_of
returns-clause-refines c = rw c.set_done.ensures.done (λ w h admitted.
    let s = c.args.state.now in
    let client = c.args.caller.client in
    let x = c.args.caller.member in
    let lessee = c.in-Some-of_key.found in
    let file = caller_file s (as_caller c.args.caller) c.requires.caller in
    let own = own_master_is s w client c.args.caller.flags x h file (sym c.requires.caller.member) in
    let one =
    looked s.masters (masters_so s c.requires.invariants) x.master c.in-Some.master.key c.args.lessee
    c.in-Some-lessee.key lessee c.in-Some.ensures.keyed (sym c.in-Some-lessee.is ∙ c.lessee.ensures.lessee)
    c.lessee.ensures.keyed (sym c.of_key.ensures ∙ c.in-Some-of_key.is) in
    let new = record s { masters = c.revoke.new.masters; leases = c.revoke.new.self } in
    let number : masters.step_number_at s.masters.masters c.in-Some-lessee.key ≡ lessee.step_number =
    number_found s.masters.masters c.in-Some-lessee.key lessee (sym c.of_key.ensures ∙ c.in-Some-of_key.is) in
    let now : c.revoke.new.masters ≡ (revoked s lessee.step_number).masters =
    opened_below s lessee.step_number c.requires.invariants c.revoke.new.masters
    (subst (λ n. c.revoke.new.masters ≡ masters.swept (calls.released (leases.is_opened_under s.leases.tokens s.masters.masters n) s.masters)) number c.revoke.ensures.masters)
    in
    let left : c.revoke.new.self ≡ leases.ended s.masters.masters lessee.step_number s.leases =
    subst (λ n. c.revoke.new.self ≡ leases.ended s.masters.masters n s.leases) number c.revoke.ensures.leases in
    carried new w (Ask client (RevokeLease c.args.lessee)) Done
    (revoke_verdict s w h client x.master c.args.lessee (Some lessee) own admitted one ∙ ap (λ b. first_failing (check NotYourLessee b ∷ [])) (sym c.is_lent_by.ensures ∙ c.if-not-is_lent_by.false))
    refl
    (subst (λ m. Represents new (swept (ended w m))) (sym (ap (λ m. lessee_master w m c.args.lessee) own ∙ lessee_step_number s w h x.master c.args.lessee lessee one))
    (subst (λ (l : LeaseSet). Represents (record s { masters = c.revoke.new.masters; leases = l }) (swept (ended w lessee.step_number))) (sym left)
    (subst (λ (v : MasterSet). Represents (record s { masters = v; leases = leases.ended s.masters.masters lessee.step_number s.leases }) (swept (ended w lessee.step_number))) (sym now)
    (revoked_represents s lessee.step_number c.requires.invariants (subst AreMasters now c.laws.ensures) (subst AreLeases left c.laws-2.ensures) w h)))))

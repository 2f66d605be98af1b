use Rattle.std.proofs.Common.{◌≡◌, true, false, [], ◌∷◌, Some, refl, sym, ap, subst, ◌∙◌}
use Rattle.drm_table.specs.declared.calls.Call.TheVariants.{AuthMagic}
use Rattle.drm_state.specs.Refinement.{RefinesReply}
use Rattle.std.specs.Prelude.{IfSome, unwrap_or}
use Rattle.std.specs.Option.{is_some}
use Rattle.drm_table.specs.declared.events.Event.TheVariants.{Ask}
use Rattle.drm_table.specs.declared.rules.Rule.TheVariants.{NoMagic}
use Rattle.drm_table.specs.Permit.{check, first_failing}
use Rattle.drm_masters.specs.Masters.{MasterSet, has_open_magic, member_of}
use Rattle.drm_masters.specs.Calls.{AuthenticatedBy}
use Rattle.drm_model.specs.Magics as model
use Rattle.drm_model.specs.Calls.{meaning}
use Rattle.drm_state.specs.Refinement.{Represents}
use Rattle.drm_state.specs.Callers.{as_caller}
use Rattle.drm_state.specs.Invariants.{MeetsInvariants, AreOfLessees, AreKeptBy}
use Rattle.drm_state.proofs.Refinements.{denied, call_verdict}
use Rattle.drm_leases.specs.Agreed.{AreAgreed}
use Rattle.drm_leases.proofs.Agreeing.{agreed_changed}
use Rattle.drm_state.proofs.Represented.{members_open, leases_agree}
use Rattle.drm_files.specs.Files.{is_open_client}
use Rattle.drm_index_array.proofs.Rising.{found, all_found}
use Rattle.drm_masters.specs.declared.rows.Member.{Member}
use Rattle.drm_state.proofs.Callers.{caller_file, its_master}
use Rattle.drm_master_calls.proofs.Callers.{opens}
use Rattle.drm_master_calls.proofs.Authenticated.{changed_invariants, authenticated_invariants}
use Rattle.drm_master_calls.proofs.Spent.{client_is, spent_represents}
use Rattle.drm_masters.specs.Calls.{with_magic}
use Rattle.drm_files.specs.Files.{with_authenticated}
use Rattle.drm_table.specs.declared.answers.Answer.TheVariants.{Done}
use Rattle.drm_model.specs.Change.{changed}
use Rattle.drm_model.specs.Reply.{answer_of}
use Rattle.drm_state.proofs.Refinements.{carried_on}
use Rattle.drm_state.proofs.Represented.{tokens_of_lessees, kept_have_tokens, magics_are, masters_so}
use Rattle.drm_master_calls.proofs.magics.auth_magic.Goals as goal

-- who is authenticated is a member, and so open
pub set_authenticated-requires : goal.set_authenticated-requires
set_authenticated-requires c =
    let s = c.args.state.now in
    let x = c.args.caller.member in
    let look = sym c.requires.caller.member in
    let done =
    subst (λ o. IfSome o (λ y. AuthenticatedBy s.masters y.master c.args.number c.auth.result c.auth.new.self)) look
    c.auth.ensures.authenticated in
    let by = subst (λ r. AuthenticatedBy s.masters x.master c.args.number r c.auth.new.self) c.in-Ok.is done in
    record { open_client = ap (is_open_client s.files) by.2 ∙ (found (has_open_magic x.master c.args.number) (λ (z : Member). is_open_client s.files z.client ≡ true) by.0 s.masters.members (members_open s c.requires.invariants) by.1).1 }

pub returns-in-Err-clause-invariants : goal.returns-in-Err-clause-invariants
returns-in-Err-clause-invariants c =
    let s = c.args.state.now in
    let x = c.args.caller.member in
    let look = sym c.requires.caller.member in
    let done =
    subst (λ o. IfSome o (λ y. AuthenticatedBy s.masters y.master c.args.number c.auth.result c.auth.new.self)) look
    c.auth.ensures.authenticated in
    let by = subst (λ r. AuthenticatedBy s.masters x.master c.args.number r c.auth.new.self) c.in-Err.is done in
    subst (λ v. MeetsInvariants (record s { masters = v })) (sym by.2) c.requires.invariants

pub returns-in-Err-clause-refines : goal.returns-in-Err-clause-refines
unfolding RefinesReply meaning
returns-in-Err-clause-refines c = rw c.set_denied.ensures.denied (λ w h admitted.
    let s = c.args.state.now in
    let x = c.args.caller.member in
    let look = sym c.requires.caller.member in
    let file = caller_file s (as_caller c.args.caller) c.requires.caller in
    let own : model.caller_master w c.args.caller.client ≡ x.master =
    ap (λ o. unwrap_or o 0) (its_master s w c.args.caller.client c.args.caller.flags x h file look) in
    let done =
    subst (λ o. IfSome o (λ y. AuthenticatedBy s.masters y.master c.args.number c.auth.result c.auth.new.self)) look
    c.auth.ensures.authenticated in
    let by = subst (λ r. AuthenticatedBy s.masters x.master c.args.number r c.auth.new.self) c.in-Err.is done in
    let none : is_some (model.magic_client w (model.caller_master w c.args.caller.client) c.args.number) ≡ false =
    ap (λ m. is_some (model.magic_client w m c.args.number)) own ∙ opens s w h x.master c.args.number
    ∙ ap is_some by.0 in
    denied (record s { masters = c.auth.new.self }) w (Ask c.args.caller.client (AuthMagic c.args.number)) c.in-Err.rule
    (call_verdict w c.args.caller.client (AuthMagic c.args.number) admitted ∙ ap (λ b. first_failing (check NoMagic b ∷ [])) none ∙ ap Some (sym by.1))
    (subst (λ v. Represents (record s { masters = v }) w) (sym by.2) h))

pub returns-in-Ok-clause-invariants : goal.returns-in-Ok-clause-invariants
returns-in-Ok-clause-invariants c =
    let s = c.args.state.now in
    let x = c.args.caller.member in
    let look = sym c.requires.caller.member in
    let done =
    subst (λ o. IfSome o (λ y. AuthenticatedBy s.masters y.master c.args.number c.auth.result c.auth.new.self)) look
    c.auth.ensures.authenticated in
    let by = subst (λ r. AuthenticatedBy s.masters x.master c.args.number r c.auth.new.self) c.in-Ok.is done in
    let rise = (masters_so s c.requires.invariants).members_rise in
    let here =
    (found (has_open_magic x.master c.args.number) (λ (z : Member). member_of s.masters.members z.client ≡ Some z) by.0 s.masters.members (all_found (λ (z : Member). z.client) s.masters.members rise) by.1).1
    in
    subst (λ fs. MeetsInvariants (record s { files = fs; masters = c.auth.new.self })) (sym c.set_authenticated.ensures)
    (authenticated_invariants (record s { masters = c.auth.new.self }) c.in-Ok.authenticated
    (changed_invariants s (with_magic c.args.number true by.0) c.auth.new.self c.requires.invariants (ap (λ (v : MasterSet). v.members) by.3) c.laws.ensures
    (subst (λ (v : MasterSet). AreOfLessees s.leases.tokens v.masters) (sym by.3) (tokens_of_lessees s c.requires.invariants))
    (subst (λ (v : MasterSet). AreKeptBy s.leases.tokens v.masters) (sym by.3) (kept_have_tokens s c.requires.invariants))
    (subst (λ (v : MasterSet). AreAgreed s.leases v) (sym by.3) (agreed_changed s.masters.members by.0 (with_magic c.args.number true by.0) s.masters.masters s.leases.lendings rise here (λ n its. its) (leases_agree s c.requires.invariants)))
    (ap (λ (v : MasterSet). v.last_magic) by.3)))

pub returns-in-Ok-clause-refines : goal.returns-in-Ok-clause-refines
unfolding RefinesReply meaning changed answer_of
returns-in-Ok-clause-refines c = rw c.set_done.ensures.done (λ w h admitted.
    let s = c.args.state.now in
    let x = c.args.caller.member in
    let n = c.args.number in
    let look = sym c.requires.caller.member in
    let file = caller_file s (as_caller c.args.caller) c.requires.caller in
    let own : model.caller_master w c.args.caller.client ≡ x.master =
    ap (λ o. unwrap_or o 0) (its_master s w c.args.caller.client c.args.caller.flags x h file look) in
    let done =
    subst (λ o. IfSome o (λ y. AuthenticatedBy s.masters y.master n c.auth.result c.auth.new.self)) look
    c.auth.ensures.authenticated in
    let by = subst (λ r. AuthenticatedBy s.masters x.master n r c.auth.new.self) c.in-Ok.is done in
    let it : model.magic_client w x.master n ≡ Some by.0.client =
    client_is x.master n by.0 s.masters (masters_so s c.requires.invariants) by.1 w (magics_are s w h) in
    let new = record s { files = c.set_authenticated.new.self; masters = c.auth.new.self } in
    carried_on new w (Ask c.args.caller.client (AuthMagic n)) Done (returns-in-Ok-clause-invariants c)
    (call_verdict w c.args.caller.client (AuthMagic n) admitted ∙ ap (λ m. first_failing (check NoMagic (is_some (model.magic_client w m n)) ∷ [])) own ∙ ap (λ o. first_failing (check NoMagic (is_some o) ∷ [])) it)
    refl
    (subst (λ m. Represents new (record w { clients = model.with_authenticated (model.magic_client w m n) w.clients; magics = model.with_spent m n w.magics })) (sym own)
    (subst (λ o. Represents new (record w { clients = model.with_authenticated o w.clients; magics = model.with_spent x.master n w.magics })) (sym it)
    (subst (λ fs. Represents (record s { files = fs; masters = c.auth.new.self }) (record w { clients = model.with_authenticated (Some by.0.client) w.clients; magics = model.with_spent x.master n w.magics })) (sym (c.set_authenticated.ensures ∙ ap (with_authenticated s.files) by.2))
    (subst (λ v. Represents (record s { files = with_authenticated s.files by.0.client; masters = v }) (record w { clients = model.with_authenticated (Some by.0.client) w.clients; magics = model.with_spent x.master n w.magics })) (sym by.3)
    (spent_represents s w x.master n by.0 c.requires.invariants by.1 h))))))

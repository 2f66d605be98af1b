use Rattle.std.proofs.Common.{◌≡◌, ℕ, Bool, ◌+◌, ◌<◌, true, false, not, [], ◌∷◌, None, Some, Option, refl, sym, ap, subst, ◌∙◌, arith, inl, length, length-append, ◌++◌}
use Rattle.std.proofs.lemmas.Result.{err_from_is_err_and}
use Rattle.drm_table.specs.declared.answers.Answer.TheVariants.{Opened}
use Rattle.drm_table.specs.declared.events.Event.TheVariants.{Open}
use Rattle.drm_table.specs.declared.events.Opening.TheVariants.{Primary}
use Rattle.drm_table.specs.declared.rules.Rule.TheVariants.{Full}
use Rattle.drm_files.specs.declared.rows.FileFlags.{FileFlags}
use Rattle.drm_model.specs.ClientCapabilities.{opening_capabilities}
use Rattle.drm_model.specs.Rows.{Rows, ClientRow, MasterRow, has_client_room, step_number}
use Rattle.drm_model.specs.Verdict.{verdict}
use Rattle.drm_model.specs.Clients.{opening_checks, opened, opened_primary}
use Rattle.drm_model.specs.Change.{changed}
use Rattle.drm_model.specs.Reply.{answer_of}
use Rattle.drm_masters.specs.Masters.{MasterSet, AreMasters}
use Rattle.drm_masters.specs.Calls as masters
use Rattle.drm_masters.proofs.NewestMember.{newest_absent, newest_unused, newest_last, newest_master, with_last_member, with_last_master}
use Rattle.drm_state.specs.Refinement.{Refines, Represents}
use Rattle.std.specs.Prelude.{if◌then◌else◌}
use Rattle.std.specs.Option.{is_none, is_some}
use Rattle.drm_files.specs.Files.{is_open_client, new_flags, without_client}
use Rattle.drm_state.specs.declared.state.State.{State}
use Rattle.drm_state.specs.Invariants.{MeetsInvariants, IsLater, AreOfLessees, AreKeptBy}
use Rattle.drm_state.proofs.Members.{found_last}
use Rattle.drm_leases.specs.Agreed.{AreAgreed}
use Rattle.drm_leases.proofs.Agreeing.{agreed_joined, agreed_more}
use Rattle.drm_state.proofs.Represented.{device_master_is, leases_so, tokens_of_lessees, kept_have_tokens, leases_agree}
use Rattle.drm_state.proofs.Ended.{fresh_token, kept_more, of_lessees_more}
use Rattle.drm_client_calls.proofs.Opened.{not_full, newer, room_for, back, closed_again, joined, joined_invariants, non_master_represents, opener_represents}
use Rattle.drm_state.proofs.Refinements.{denied, carried_on, refused, opening_verdict, client_room}
use Rattle.drm_client_calls.proofs.openings.open_primary.Goals as goal

accepted : (w : Rows) (root universal : Bool) → has_client_room w ≡ true
    → verdict w (Open (Primary root universal)) ≡ None
unfolding opening_checks
accepted w root universal room = opening_verdict w (Primary root universal) ∙ rw room refl

longer : (w : Rows) (root universal : Bool) (m : Option ℕ)
    → length w.clients < length (opened_primary w root universal m).clients
longer w root universal None =
    omega
    (arith, length-append w.clients (record { client = step_number w; render = false; root = root; authenticated = true; once_master = true; is_master = true; master = Some (step_number w); capabilities = opening_capabilities universal } ∷ []))
longer w root universal (Some m) =
    omega
    (arith, length-append w.clients (record { client = step_number w; render = false; root = root; authenticated = root; once_master = false; is_master = false; master = Some m; capabilities = opening_capabilities universal } ∷ []))

abbrev flags : Bool → Bool → Bool → FileFlags
flags root universal opener = record (new_flags false root universal) { authenticated = if opener then true else root }

pub returns-then-is_full-clause-refines : goal.returns-then-is_full-clause-refines
unfolding Refines opening_checks
returns-then-is_full-clause-refines c = rw c.set_denied.ensures.denied (λ w s.
    let full = client_room c.args.state.now w s.rows ∙ ap not (sym c.is_full.ensures.full ∙ c.if-is_full.true) in
    denied c.args.state.now w (Open (Primary c.args.root c.args.universal)) Full
    (opening_verdict w (Primary c.args.root c.args.universal) ∙ rw full refl) s.rows)

pub returns-in_err-open_file-clause-refines : goal.returns-in_err-open_file-clause-refines
unfolding Refines changed opened
returns-in_err-open_file-clause-refines c = λ w s.
    let room = client_room c.args.state.now w s.rows ∙ ap not (sym c.is_full.ensures.full ∙ c.if-is_full.false) in
    let p = err_from_is_err_and c.from_residual.result c.from_residual.ensures.1 in
    rw p.1 (refused (record c.args.state.now { files = c.open_file.new.files }) w (Open (Primary c.args.root c.args.universal)) p.0 (accepted w c.args.root c.args.universal room) (inl (longer w c.args.root c.args.universal w.device_master))
    (subst (λ fs. Represents (record c.args.state.now { files = fs }) w) (sym c.in_err-open_file.ensures.err) s.rows))

pub on_open-requires-clause-new_client : goal.on_open-requires-clause-new_client
on_open-requires-clause-new_client c =
    newest_absent c.args.state.now.masters c.args.step_number
    (newer c.args.state.now c.args.step_number c.requires.invariants c.requires.later)

pub on_open-requires-clause-new_step_number : goal.on_open-requires-clause-new_step_number
on_open-requires-clause-new_step_number c =
    newest_unused c.args.state.now.masters.masters c.args.step_number c.requires.later.masters

pub on_open-requires-clause-room : goal.on_open-requires-clause-room
on_open-requires-clause-room c =
    room_for c.args.state.now c.requires.invariants
    (not_full c.args.state.now.files.limit (length c.args.state.now.files.clients) (sym c.is_full.ensures.full ∙ c.if-is_full.false))

pub close-rest-requires : goal.close-rest-requires
close-rest-requires c =
    record
    { open_client = subst (λ fs. is_open_client fs c.args.step_number ≡ true) (sym c.in_ok-open_file.ensures.ok) (found_last (record { client = c.args.step_number; flags = flags c.args.root c.args.universal c.is_none-opener.result }) c.args.state.now.files.clients) }

pub returns-in-Err-clause-invariants : goal.returns-in-Err-clause-invariants
returns-in-Err-clause-invariants c =
    back MeetsInvariants c.args.state.now c.close-rest.new.self c.on_open.new.self
    (c.close-rest.ensures.closed ∙ ap (λ l. without_client l c.args.step_number) c.in_ok-open_file.ensures.ok ∙ closed_again c.args.state.now.files c.args.step_number (flags c.args.root c.args.universal c.is_none-opener.result) c.is_full.ensures.lists c.requires.later.clients)
    c.in-Err.ensures.err c.requires.invariants

pub returns-in-Err-clause-refines : goal.returns-in-Err-clause-refines
unfolding Refines changed opened
returns-in-Err-clause-refines c = λ w s.
    let room = client_room c.args.state.now w s.rows ∙ ap not (sym c.is_full.ensures.full ∙ c.if-is_full.false) in
    refused (record c.args.state.now { files = c.close-rest.new.self; masters = c.on_open.new.self }) w
    (Open (Primary c.args.root c.args.universal)) (record {}) (accepted w c.args.root c.args.universal room)
    (inl (longer w c.args.root c.args.universal w.device_master))
    (back (λ t. Represents t w) c.args.state.now c.close-rest.new.self c.on_open.new.self
    (c.close-rest.ensures.closed ∙ ap (λ l. without_client l c.args.step_number) c.in_ok-open_file.ensures.ok ∙ closed_again c.args.state.now.files c.args.step_number (flags c.args.root c.args.universal c.is_none-opener.result) c.is_full.ensures.lists c.requires.later.clients) c.in-Err.ensures.err s.rows)

-- the newest client is the last
new_opener : (v new : MasterSet) (b key : ℕ) → masters.IsNewClient v b → masters.IsNewStepNumber v b
    → new ≡ masters.with_device (Some b) (masters.with_member (masters.owner b b) (masters.with_master (masters.founded_master key b) v))
    → new ≡ masters.with_device (Some b) (with_last_member (masters.owner b b) (with_last_master (masters.founded_master key b) v))
new_opener v new b key newest last e =
    let z = masters.founded_master key b in
    e
    ∙ ap (masters.with_device (Some b))
    (newest_last (masters.with_master z v) (masters.owner b b) newest ∙ ap (with_last_member (masters.owner b b)) (newest_master v z last))

new_guest : (v new : MasterSet) (b m : ℕ) → masters.IsNewClient v b
    → new ≡ masters.with_member (masters.non_master b m) v → new ≡ with_last_member (masters.non_master b m) v
new_guest v new b m newest e = e ∙ newest_last v (masters.non_master b m) newest

-- what an opening leaves of masters meets the invariants
invariants_by : (s : State) (b : ℕ) (g : FileFlags) (new : MasterSet) (d : Option ℕ) → MeetsInvariants s → IsLater s b
    → AreMasters new → masters.Opened s.masters b b d new → MeetsInvariants (joined s b g new s.leases)
invariants_by s b g new None t later are h =
    let is = new_opener s.masters new b h.0 (newer s b t later) later.masters h.2 in
    joined_invariants s g (masters.owner b b) new s.leases t (ap (λ (v : MasterSet). v.members) is) are (leases_so s t)
    (subst (λ (v : MasterSet). AreOfLessees s.leases.tokens v.masters) (sym is) (of_lessees_more s.leases.tokens s.masters.masters (masters.founded_master h.0 b) (tokens_of_lessees s t)))
    (subst (λ (v : MasterSet). AreKeptBy s.leases.tokens v.masters) (sym is) (kept_more s.leases.tokens s.masters.masters (masters.founded_master h.0 b) (kept_have_tokens s t) refl later.leases.tokens))
    (subst (λ (v : MasterSet). AreAgreed s.leases v) (sym is) (agreed_joined s.masters.members (masters.owner b b) (s.masters.masters ++ masters.founded_master h.0 b ∷ []) s.leases.lendings (agreed_more s.masters.members s.masters.masters (masters.founded_master h.0 b) s.leases.lendings (leases_agree s t))))
    (ap (λ (v : MasterSet). v.last_magic) is)
invariants_by s b g new (Some m) t later are h =
    let is = new_guest s.masters new b m (newer s b t later) h in
    joined_invariants s g (masters.non_master b m) new s.leases t (ap (λ (v : MasterSet). v.members) is) are
    (leases_so s t)
    (subst (λ (v : MasterSet). AreOfLessees s.leases.tokens v.masters) (sym is) (tokens_of_lessees s t))
    (subst (λ (v : MasterSet). AreKeptBy s.leases.tokens v.masters) (sym is) (kept_have_tokens s t))
    (subst (λ (v : MasterSet). AreAgreed s.leases v) (sym is) (agreed_joined s.masters.members (masters.non_master b m) s.masters.masters s.leases.lendings (leases_agree s t)))
    (ap (λ (v : MasterSet). v.last_magic) is)

pub returns-clause-invariants : goal.returns-clause-invariants
returns-clause-invariants c =
    let s = c.args.state.now in
    let g = flags c.args.root c.args.universal c.is_none-opener.result in
    subst (λ fs. MeetsInvariants (record s { files = fs; masters = c.on_open.new.self }))
    (sym c.in_ok-open_file.ensures.ok)
    (invariants_by s c.args.step_number g c.on_open.new.self s.masters.device_master c.requires.invariants c.requires.later c.laws.ensures c.in_default.ensures.ok)

-- and it represents the rows of an opening
rows_by : (s : State) (w : Rows) (b : ℕ) (root universal opener : Bool) (new : MasterSet) (d : Option ℕ)
    → MeetsInvariants s → IsLater s b → w.steps + 1 ≡ b → opener ≡ is_none d → masters.Opened s.masters b b d new
    → Represents s w
    → Represents (joined s b (flags root universal opener) new s.leases) (opened_primary w root universal d)
rows_by s w b root universal opener new None t later is f h r =
    let row : ClientRow =
    record
    { client = step_number w; render = false; root = root; authenticated = true; once_master = true; is_master = true; master = Some (step_number w); capabilities = opening_capabilities universal }
    in
    let master : MasterRow = record { master = step_number w; lessor = None; lessee_id = 0; lease_token = None } in
    subst (λ n. Represents (joined s b (flags root universal n) new s.leases) (opened_primary w root universal None))
    (sym f)
    (subst (λ v. Represents (joined s b (flags root universal true) v s.leases) (opened_primary w root universal None)) (sym (new_opener s.masters new b h.0 (newer s b t later) later.masters h.2))
    (opener_represents s w (flags root universal true) (masters.owner b b) (masters.founded_master h.0 b) row master t later refl (ap (λ n. record row { client = n; master = Some n }) (sym is)) (λ i. record { master = sym is i; lessor = None; lessee_id = 0; lease_token = fresh_token b s.leases.tokens later.leases.tokens i }) r))
rows_by s w b root universal opener new (Some m) t later is f h r =
    let row : ClientRow =
    record
    { client = step_number w; render = false; root = root; authenticated = root; once_master = false; is_master = false; master = Some m; capabilities = opening_capabilities universal }
    in
    subst
    (λ n. Represents (joined s b (flags root universal n) new s.leases) (opened_primary w root universal (Some m)))
    (sym f)
    (subst (λ v. Represents (joined s b (flags root universal false) v s.leases) (opened_primary w root universal (Some m))) (sym (new_guest s.masters new b m (newer s b t later) h))
    (non_master_represents s w (flags root universal false) (masters.non_master b m) row t later refl (ap (λ n. record row { client = n }) (sym is)) r))

flipped : (o : Option ℕ) (b : Bool) → is_some o ≡ not b → b ≡ is_none o
flipped None true h = refl
flipped None false h = absurd (let e : false ≡ true = h in cc)
flipped (Some n) true h = absurd (let e : true ≡ false = h in cc)
flipped (Some n) false h = refl

pub returns-clause-refines : goal.returns-clause-refines
unfolding Refines changed opened answer_of
returns-clause-refines c = λ w s.
    let room = client_room c.args.state.now w s.rows ∙ ap not (sym c.is_full.ensures.full ∙ c.if-is_full.false) in
    let device = device_master_is c.args.state.now w s.rows in
    let opener : c.is_none-opener.result ≡ is_none c.args.state.now.masters.device_master =
    flipped c.args.state.now.masters.device_master c.is_none-opener.result
    (ap is_some (sym c.device_master.ensures) ∙ c.is_none-opener.ensures) in
    carried_on (record c.args.state.now { files = c.open_file.new.files; masters = c.on_open.new.self }) w
    (Open (Primary c.args.root c.args.universal)) (Opened c.args.step_number) (returns-clause-invariants c)
    (accepted w c.args.root c.args.universal room) (ap Opened (sym s.step_number_is))
    (subst (λ d. Represents (record c.args.state.now { files = c.open_file.new.files; masters = c.on_open.new.self }) (opened_primary w c.args.root c.args.universal d)) (sym device)
    (subst (λ fs. Represents (record c.args.state.now { files = fs; masters = c.on_open.new.self }) (opened_primary w c.args.root c.args.universal c.args.state.now.masters.device_master)) (sym c.in_ok-open_file.ensures.ok)
    (rows_by c.args.state.now w c.args.step_number c.args.root c.args.universal c.is_none-opener.result c.on_open.new.self c.args.state.now.masters.device_master c.requires.invariants c.requires.later s.step_number_is opener c.in_default.ensures.ok s.rows)))

use Rattle.std.proofs.Common.{◌≡◌, ℕ, ◌<◌, Bool, true, false, not, List, [], ◌∷◌, find, None, Some, Option, refl, sym, ap, subst, ◌∙◌, arith, inl, length, length-append}
use Rattle.std.specs.Option.{is_some, option_map, option_and_then}
use Rattle.std.proofs.lemmas.Bool.{eqb-true}
use Rattle.std.proofs.lemmas.Option.{none-some, same_Some}
use Rattle.std.proofs.lemmas.Result.{err_from_is_err_and}
use Rattle.drm_index_array.proofs.Rising.{found}
use Rattle.drm_table.specs.declared.answers.Answer.TheVariants.{Opened}
use Rattle.drm_table.specs.declared.events.Event.TheVariants.{Open}
use Rattle.drm_table.specs.declared.events.Opening.TheVariants.{Lease}
use Rattle.drm_table.specs.declared.rules.Rule.TheVariants.{NoLeaseToken, Full}
use Rattle.std.specs.List.{AllByRecursion}
use Rattle.drm_files.specs.declared.rows.FileClient.{FileClient}
use Rattle.drm_files.specs.Files.{FileLists, AreFiles, is_open_client, without_client}
use Rattle.drm_masters.specs.declared.rows.Master.{Master}
use Rattle.drm_masters.specs.Masters.{MasterSet, AreMasters, IsKeyOf, step_number_at, is_lessee, master_at}
use Rattle.drm_masters.specs.Calls.{IsNewClient, redeemed}
use Rattle.drm_masters.proofs.NewestMember.{newest_absent}
use Rattle.drm_leases.specs.Leases.{LeaseSet, Lending, AreLeases, is_lease_of, key_at, token_master}
use Rattle.drm_leases.specs.Agreed.{IsAgreed}
use Rattle.drm_leases.proofs.MasterKeys.{keyed_step_number, lent_key, token_lent}
use Rattle.drm_leases.specs.Calls.{without_token}
use Rattle.drm_model.specs.ClientCapabilities.{opening_capabilities}
use Rattle.drm_model.specs.Rows.{Rows, MasterRow, has_client_room, step_number}
use Rattle.drm_model.specs.Verdict.{verdict}
use Rattle.drm_model.specs.Leases.{lease_master}
use Rattle.drm_model.specs.Clients.{opening_checks, opened, opened_lease}
use Rattle.drm_model.specs.Change.{changed}
use Rattle.drm_model.specs.Reply.{answer_of}
use Rattle.drm_state.specs.declared.state.State.{State}
use Rattle.drm_state.specs.Invariants.{MeetsInvariants}
use Rattle.drm_state.specs.Refinement.{Refines, Represents}
use Rattle.drm_state.proofs.Members.{found_last}
use Rattle.drm_state.proofs.Refinements.{denied, carried_on, refused, opening_verdict, client_room}
use Rattle.drm_state.proofs.Represented.{masters_are, masters_so, leases_so, leases_agree, kept_have_tokens, tokens_of_lessees}
use Rattle.drm_client_calls.proofs.Opened.{joined, with_file, not_full, newer, room_for, back, closed_again}
use Rattle.drm_client_calls.proofs.Redeemed.{not_leased, no_token, of_lessee, lease_flags, opens, its_row, redeemed_invariants, redeemed_represents, redeemed_last, last_redeemed, unredeemed, with_lease_client}
use Rattle.drm_client_calls.proofs.openings.open_lease.Goals as goal

accepted : (w : Rows) (token : ℕ) (root universal : Bool) → is_some (lease_master w token) ≡ true
    → has_client_room w ≡ true → verdict w (Open (Lease token root universal)) ≡ None
unfolding opening_checks
accepted w token root universal leased room = opening_verdict w (Lease token root universal) ∙ rw leased (rw room refl)

longer : (w : Rows) (token : ℕ) (root universal : Bool)
    → length w.clients < length (opened_lease w token root universal).clients
longer w token root universal =
    omega
    (arith, length-append w.clients (record { client = step_number w; render = false; root = root; authenticated = true; once_master = false; is_master = true; master = option_map (λ (row : MasterRow). row.master) (lease_master w token); capabilities = opening_capabilities universal } ∷ []))

-- the lessee of a token is there
lessee_there : (ms : List Master) (m : ℕ) → is_lessee ms m ≡ true → master_at ms m ≡ None → ⊥
lessee_there ms m h e = let n : false ≡ true = ap (λ o. is_some (option_and_then (λ (x : Master). x.lessor) o)) (sym e) ∙ h in cc

-- the lessee's row
leased : (s : State) (w : Rows) (token m : ℕ) (x : Master) → MeetsInvariants s
    → token_master s.leases.tokens token ≡ Some m → master_at s.masters.masters m ≡ Some x → Represents s w
    → is_some (lease_master w token) ≡ true
leased s w token m x t is there h = ap is_some (its_row s token m t is w x there h)

-- and where the lessee wasn't looked up yet
leased_yet : (s : State) (w : Rows) (token m : ℕ) → MeetsInvariants s → token_master s.leases.tokens token ≡ Some m
    → Represents s w → is_some (lease_master w token) ≡ true
leased_yet s w token m t is h = by_row (master_at s.masters.masters m) refl
  where
    by_row : (o : Option Master) → master_at s.masters.masters m ≡ o → is_some (lease_master w token) ≡ true
    by_row None e =
        absurd
        (lessee_there s.masters.masters m (of_lessee s.leases.tokens s.masters.masters token m (tokens_of_lessees s t) is) e)
    by_row (Some x) e = leased s w token m x t is e h

-- what a lease token opens: a lessee, by its key
abbrev Opens : State → ℕ → ℕ → Type 0
Opens s t key =
    (m : ℕ) × (token_master s.leases.tokens t ≡ Some m) × IsKeyOf s.masters.masters m key × (x : Master) ×
    (master_at s.masters.masters m ≡ Some x)

opens_by : (s : State) (t key : ℕ) → MeetsInvariants s
    → Some key ≡ option_and_then (key_at s.leases.lendings) (token_master s.leases.tokens t) → Opens s t key
opens_by s t key h e = by_token (token_master s.leases.tokens t) refl e
  where
    row_of : (m : ℕ) → token_master s.leases.tokens t ≡ Some m → (o : Option Master) → master_at s.masters.masters m ≡ o
        → (x : Master) × (master_at s.masters.masters m ≡ Some x)
    row_of m is None k =
        absurd
        (lessee_there s.masters.masters m (of_lessee s.leases.tokens s.masters.masters t m (tokens_of_lessees s h) is) k)
    row_of m is (Some x) k = (x, k)

    keyed : (m : ℕ) (o : Option Lending) → find (is_lease_of m) s.leases.lendings ≡ o
        → Some key ≡ option_map (λ (x : Lending). x.key) o → IsKeyOf s.masters.masters m key
    keyed m None f k = absurd (none-some key (sym k))
    keyed m (Some x) f k =
        let w =
        found (is_lease_of m) (IsAgreed s.masters.members s.masters.masters) x s.leases.lendings (leases_agree s h)
        f in
        subst (λ n. IsKeyOf s.masters.masters n key) (eqb-true x.lessee m w.0)
        (subst (λ n. IsKeyOf s.masters.masters x.lessee n) (sym (same_Some key x.key k)) w.1.2)

    by_token : (o : Option ℕ) → token_master s.leases.tokens t ≡ o
        → Some key ≡ option_and_then (key_at s.leases.lendings) o → Opens s t key
    by_token None f k = absurd (none-some key (sym k))
    by_token (Some m) f k =
        let row = row_of m f (master_at s.masters.masters m) refl in
        (m, f, keyed m (find (is_lease_of m) s.leases.lendings) refl k, row.0, row.1)

-- one that opens none is not open
opens_none : (s : State) (t : ℕ) → MeetsInvariants s
    → None ≡ option_and_then (key_at s.leases.lendings) (token_master s.leases.tokens t)
    → token_master s.leases.tokens t ≡ None
opens_none s t h e = by_token (token_master s.leases.tokens t) refl e
  where
    none_some : (o : Option ℕ) → is_some o ≡ true → None ≡ o → ⊥
    none_some None k e = let n : false ≡ true = k in cc
    none_some (Some x) k e = none-some x e

    by_token : (o : Option ℕ) → token_master s.leases.tokens t ≡ o → None ≡ option_and_then (key_at s.leases.lendings) o
        → token_master s.leases.tokens t ≡ None
    by_token None f k = f
    by_token (Some m) f k =
        absurd
        (none_some (key_at s.leases.lendings m) (lent_key s.leases.lendings m ∙ token_lent s.leases (leases_so s h) t m f) k)

pub returns-in_default-clause-refines : goal.returns-in_default-clause-refines
unfolding Refines opening_checks
returns-in_default-clause-refines c = rw c.set_denied.ensures.denied (λ w s.
    let old = c.args.state.now in
    let none : is_some (lease_master w c.args.token) ≡ false =
    ap is_some
    (not_leased w old.leases.tokens old.masters.masters c.args.token (masters_are old w s.rows) (no_token old.leases.tokens c.args.token (opens_none old c.args.token c.requires.invariants (sym c.in_default.is ∙ c.token_master.ensures))))
    in
    denied old w (Open (Lease c.args.token c.args.root c.args.universal)) NoLeaseToken
    (opening_verdict w (Lease c.args.token c.args.root c.args.universal) ∙ rw none refl) s.rows)

pub returns-then-is_full-clause-refines : goal.returns-then-is_full-clause-refines
unfolding Refines opening_checks
returns-then-is_full-clause-refines c = rw c.set_denied-then-is_full.ensures.denied (λ w s.
    let old = c.args.state.now in
    let full = client_room old w s.rows ∙ ap not (sym c.is_full.ensures.full ∙ c.if-is_full.true) in
    let there =
    (let o = opens_by old c.args.token c.in-Some.lessee c.requires.invariants (sym c.in-Some.is ∙ c.token_master.ensures) in leased_yet old w c.args.token o.0 c.requires.invariants o.1 s.rows)
    in
    denied old w (Open (Lease c.args.token c.args.root c.args.universal)) Full
    (opening_verdict w (Lease c.args.token c.args.root c.args.universal) ∙ rw there (rw full refl)) s.rows)

pub returns-in_err-open_file-clause-refines : goal.returns-in_err-open_file-clause-refines
unfolding Refines changed opened
returns-in_err-open_file-clause-refines c = λ w s.
    let old = c.args.state.now in
    let room = client_room old w s.rows ∙ ap not (sym c.is_full.ensures.full ∙ c.if-is_full.false) in
    let there =
    (let o = opens_by old c.args.token c.in-Some.lessee c.requires.invariants (sym c.in-Some.is ∙ c.token_master.ensures) in leased_yet old w c.args.token o.0 c.requires.invariants o.1 s.rows)
    in
    let p = err_from_is_err_and c.from_residual.result c.from_residual.ensures.1 in
    rw p.1 (refused (record old { files = c.open_file.new.files }) w (Open (Lease c.args.token c.args.root c.args.universal)) p.0 (accepted w c.args.token c.args.root c.args.universal there room) (inl (longer w c.args.token c.args.root c.args.universal))
    (subst (λ fs. Represents (record old { files = fs }) w) (sym c.in_err-open_file.ensures.err) s.rows))

pub on_redeem-requires-clause-new_client : goal.on_redeem-requires-clause-new_client
on_redeem-requires-clause-new_client c =
    newest_absent c.args.state.now.masters c.args.step_number
    (newer c.args.state.now c.args.step_number c.requires.invariants c.requires.later)

pub on_redeem-requires-clause-room : goal.on_redeem-requires-clause-room
on_redeem-requires-clause-room c =
    room_for c.args.state.now c.requires.invariants
    (not_full c.args.state.now.files.limit (length c.args.state.now.files.clients) (sym c.is_full.ensures.full ∙ c.if-is_full.false))

pub on_redeem-requires-clause-unredeemed : goal.on_redeem-requires-clause-unredeemed
on_redeem-requires-clause-unredeemed c =
    let s = c.args.state.now in
    let o =
    opens_by s c.args.token c.in-Some.lessee c.requires.invariants (sym c.in-Some.is ∙ c.token_master.ensures) in
    unredeemed s.leases.tokens s.masters.masters o.0 c.in-Some.lessee (masters_so s c.requires.invariants).masters_rise
    (kept_have_tokens s c.requires.invariants) (opens s c.args.token o.0 c.requires.invariants o.1)
    (of_lessee s.leases.tokens s.masters.masters c.args.token o.0 (tokens_of_lessees s c.requires.invariants) o.1) o.2

pub close-rest-requires : goal.close-rest-requires
close-rest-requires c =
    record
    { open_client = subst (λ fs. is_open_client fs c.args.step_number ≡ true) (sym c.in_ok-open_file.ensures.ok) (found_last (record { client = c.args.step_number; flags = lease_flags c.args.root c.args.universal }) c.args.state.now.files.clients) }

-- the client's file is removed again
closed_file : (old opened closed : FileLists) (c : ℕ) (root universal : Bool) → closed ≡ without_client opened c
    → opened ≡ with_file old c (lease_flags root universal) → AreFiles old
    → AllByRecursion (λ (f : FileClient). f.client < c) old.clients → closed ≡ old
closed_file old opened closed c root universal is e are newest =
    is ∙ ap (λ (l : FileLists). without_client l c) e ∙ closed_again old c (lease_flags root universal) are newest

pub returns-in-Err-clause-invariants : goal.returns-in-Err-clause-invariants
returns-in-Err-clause-invariants c =
    back MeetsInvariants c.args.state.now c.close-rest.new.self c.on_redeem.new.self
    (closed_file c.args.state.now.files c.open_file.new.files c.close-rest.new.self c.args.step_number c.args.root c.args.universal c.close-rest.ensures.closed c.in_ok-open_file.ensures.ok c.is_full.ensures.lists c.requires.later.clients)
    c.in-Err.ensures.err c.requires.invariants

pub returns-in-Err-clause-refines : goal.returns-in-Err-clause-refines
unfolding Refines changed opened
returns-in-Err-clause-refines c = λ w s.
    let old = c.args.state.now in
    let room = client_room old w s.rows ∙ ap not (sym c.is_full.ensures.full ∙ c.if-is_full.false) in
    let there =
    (let o = opens_by old c.args.token c.in-Some.lessee c.requires.invariants (sym c.in-Some.is ∙ c.token_master.ensures) in leased_yet old w c.args.token o.0 c.requires.invariants o.1 s.rows)
    in
    refused (record old { files = c.close-rest.new.self; masters = c.on_redeem.new.self }) w
    (Open (Lease c.args.token c.args.root c.args.universal)) (record {})
    (accepted w c.args.token c.args.root c.args.universal there room)
    (inl (longer w c.args.token c.args.root c.args.universal))
    (back (λ t. Represents t w) old c.close-rest.new.self c.on_redeem.new.self (closed_file c.args.state.now.files c.open_file.new.files c.close-rest.new.self c.args.step_number c.args.root c.args.universal c.close-rest.ensures.closed c.in_ok-open_file.ensures.ok c.is_full.ensures.lists c.requires.later.clients) c.in-Err.ensures.err s.rows)

-- ---- the client is there

-- told by the parts unchanged
told : (P : State → Type 0) (s : State) (b t m key : ℕ) (root universal : Bool) (fs : FileLists) (set : MasterSet) (l : LeaseSet)
    → IsNewClient s.masters b → IsKeyOf s.masters.masters m key → fs ≡ with_file s.files b (lease_flags root universal)
    → set ≡ redeemed b (step_number_at s.masters.masters key) s.masters → l ≡ without_token t s.leases →
    P (with_lease_client s b t m root universal) → P (record s { files = fs; masters = set; leases = l })
told P s b t m key root universal fs set l newest is e f g h =
    let number = keyed_step_number s.masters.masters m key is in
    subst (λ files. P (record s { files = files; masters = set; leases = l })) (sym e)
    (subst (λ v. P (joined s b (lease_flags root universal) v l)) (sym (f ∙ (λ i. redeemed b (number i) s.masters) ∙ last_redeemed b m s.masters newest))
    (subst (λ ls. P (joined s b (lease_flags root universal) (redeemed_last b m s.masters) ls)) (sym g) h))

-- the masters are those that a redeeming leaves
masters_after : (s : State) (b m key : ℕ) (set : MasterSet) → IsNewClient s.masters b → IsKeyOf s.masters.masters m key
    → set ≡ redeemed b (step_number_at s.masters.masters key) s.masters → AreMasters set
    → AreMasters (redeemed_last b m s.masters)
masters_after s b m key set newest is e =
    subst AreMasters
    (e ∙ (λ i. redeemed b (keyed_step_number s.masters.masters m key is i) s.masters) ∙ last_redeemed b m s.masters newest)

pub returns-clause-invariants : goal.returns-clause-invariants
returns-clause-invariants c =
    let s = c.args.state.now in
    let o =
    opens_by s c.args.token c.in-Some.lessee c.requires.invariants (sym c.in-Some.is ∙ c.token_master.ensures) in
    let m = o.0 in
    let key = c.in-Some.lessee in
    let is = o.1 in
    let newest = newer s c.args.step_number c.requires.invariants c.requires.later in
    told MeetsInvariants s c.args.step_number c.args.token m key c.args.root c.args.universal c.open_file.new.files
    c.on_redeem.new.self c.redeem-spent.new.self newest o.2 c.in_ok-open_file.ensures.ok
    c.in_default-on_redeem.ensures.ok c.redeem-spent.ensures.spent
    (redeemed_invariants s c.args.token m c.requires.invariants is c.args.step_number c.args.root c.args.universal newest (masters_after s c.args.step_number m key c.on_redeem.new.self newest o.2 c.in_default-on_redeem.ensures.ok c.laws.ensures) (subst AreLeases c.redeem-spent.ensures.spent c.laws-2.ensures))

pub returns-clause-refines : goal.returns-clause-refines
unfolding Refines changed opened answer_of
returns-clause-refines c = λ w r.
    let s = c.args.state.now in
    let o =
    opens_by s c.args.token c.in-Some.lessee c.requires.invariants (sym c.in-Some.is ∙ c.token_master.ensures) in
    let m = o.0 in
    let key = c.in-Some.lessee in
    let is = o.1 in
    let found = o.4 in
    let newest = newer s c.args.step_number c.requires.invariants c.requires.later in
    let room = client_room s w r.rows ∙ ap not (sym c.is_full.ensures.full ∙ c.if-is_full.false) in
    let there = leased s w c.args.token m o.3 c.requires.invariants is found r.rows in
    carried_on
    (record s { files = c.open_file.new.files; masters = c.on_redeem.new.self; leases = c.redeem-spent.new.self }) w
    (Open (Lease c.args.token c.args.root c.args.universal)) (Opened c.args.step_number) (returns-clause-invariants c)
    (accepted w c.args.token c.args.root c.args.universal there room) (ap Opened (sym r.step_number_is))
    (told (λ t. Represents t (opened_lease w c.args.token c.args.root c.args.universal)) s c.args.step_number c.args.token m key c.args.root c.args.universal c.open_file.new.files c.on_redeem.new.self c.redeem-spent.new.self newest o.2 c.in_ok-open_file.ensures.ok c.in_default-on_redeem.ensures.ok c.redeem-spent.ensures.spent
    (redeemed_represents s c.args.token m c.requires.invariants is w o.3 found r.rows c.args.step_number c.args.root c.args.universal c.requires.later r.step_number_is))

-- What an opening leaves of the parts.
use Rattle.std.proofs.Common.{◌≡◌, ℕ, ◌<◌, ◌≤◌, ◌==◌, Bool, true, false, not, ◌||◌, cond, List, [], ◌∷◌, ◌++◌, filter, find, Option, None, Some, refl, sym, ap, ◌∙◌, subst, append-nil, eq-eqb, length, arith}
use Rattle.std.specs.Prelude.{nat_le}
use Rattle.std.specs.List.{filter_map, cons_option, AllByRecursion}
use Rattle.std.specs.Option.{is_some, option_map}
use Rattle.std.proofs.lemmas.Bool.{eqb-true, or_left, or_right}
use Rattle.std.proofs.lemmas.Bool.Decides.{nat_tests}
use Rattle.std.proofs.lemmas.List.{map-append}
use Rattle.std.proofs.lemmas.List.Elements.{filter-append}
use Rattle.drm_index_array.specs.Orders.{SameRows, InOrder}
use Rattle.drm_index_array.proofs.Lists.{all_weaker, all_append, filter_all, filter-fewer, all_both, list_any_left, list_any_right}
use Rattle.drm_index_array.proofs.FoundInLists.{is_some-find, find_others}
use Rattle.drm_index_array.proofs.Numbers.{less-differ, flipped}
use Rattle.drm_files.specs.declared.rows.FileFlags.{FileFlags}
use Rattle.drm_files.specs.declared.rows.FileClient.{FileClient}
use Rattle.drm_files.specs.declared.rows.FileHandle.{FileHandle}
use Rattle.drm_files.specs.Files as files
use Rattle.drm_files.specs.Files.{FileLists, AreFiles, IsHandleOf, is_open_client, without_client}
use Rattle.drm_masters.specs.declared.rows.Magic.{Magic}
use Rattle.drm_masters.specs.declared.rows.Member.{Member}
use Rattle.drm_masters.specs.declared.rows.Master.{Master}
use Rattle.drm_masters.specs.Masters as masters
use Rattle.drm_masters.specs.Masters.{MasterSet, AreMasters}
use Rattle.drm_masters.specs.Calls.{IsNewClient, with_device}
use Rattle.drm_masters.proofs.NewestMember.{with_last_member, with_last_master}
use Rattle.drm_leases.specs.Leases.{LeaseSet, AreLeases}
use Rattle.drm_model.specs.Rows.{Rows, ClientRow, MasterRow}
use Rattle.drm_state.specs.declared.state.State.{State}
use Rattle.drm_state.specs.Parts.{client_row_by, master_row_of, magic_row_of, clients_of, masters_of}
use Rattle.drm_leases.specs.Agreed.{AreAgreed}
use Rattle.drm_state.specs.Invariants.{Invariant, MembersOpen, ClientsHave, MastersAre, MagicsSuffice, LeasesAre, TokensOfLessees, KeptHaveTokens, LeasesAgree, meets_invariant, MeetsInvariants, IsLater, HasMaster, AreOfLessees, AreKeptBy}
use Rattle.drm_model.specs.Parts.{Part, Clients, Masters, Magics, DeviceMaster}
use Rattle.drm_state.specs.Refinement.{represents_part, Represents}
use Rattle.drm_state.proofs.Represented.{clients_are, masters_are, magics_are, members_open, masters_so, clients_have, magics_suffice}
use Rattle.drm_state.proofs.Members.{older, client_pushed, render_pushed, members_open_yet, found_last}
use Rattle.drm_client_calls.proofs.Files.{not_there}

-- ---- that there is room

-- If a count has not reached the limit, it is below it.
pub not_full : (a b : ℕ) → nat_le a b ≡ false → b < a
not_full a b h = grind (arith, nat_tests)

-- Clients that belong to masters are older than a client that is opened now.
pub newer : (s : State) (b : ℕ) → MeetsInvariants s → IsLater s b → IsNewClient s.masters b
newer s b t later =
    all_weaker (λ (x : Member). is_open_client s.files x.client ≡ true) (λ (x : Member). x.client < b)
    (λ x e. older x.client b s.files.clients later.clients e) s.masters.members (members_open s t)

-- ---- a file that was opened is closed again

-- Files and masters that are unchanged leave the state unchanged.
pub back : (P : State → Type 0) (s : State) (fs : FileLists) (set : MasterSet) → fs ≡ s.files → set ≡ s.masters → P s
    → P (record s { files = fs; masters = set })
back P s fs set e f h =
    subst (λ l. P (record s { files = l; masters = set })) (sym e) (subst (λ l. P (record s { masters = l })) (sym f) h)

abbrev pub with_file : FileLists → ℕ → FileFlags → FileLists
with_file fs c flags = record fs { clients = fs.clients ++ record { client = c; flags = flags } ∷ [] }

-- A file that is added and removed again leaves the files unchanged.
pub closed_again : (fs : FileLists) (c : ℕ) (flags : FileFlags) → AreFiles fs
    → AllByRecursion (λ (g : FileClient). g.client < c) fs.clients → without_client (with_file fs c flags) c ≡ fs
closed_again fs c flags are newest = λ i. record fs { clients = clients i; holds = holds i }
  where
    others : AllByRecursion (λ (g : FileClient). not (files.is_client c g) ≡ true) fs.clients
    others =
        all_weaker (λ (g : FileClient). g.client < c) (λ (g : FileClient). not (files.is_client c g) ≡ true)
        (λ g lt. ap not (less-differ g.client c lt)) fs.clients newest

    clients : filter (λ (g : FileClient). not (files.is_client c g)) (fs.clients ++ record { client = c; flags = flags } ∷ []) ≡ fs.clients
    clients =
        filter-append (λ (g : FileClient). not (files.is_client c g)) fs.clients
        (record { client = c; flags = flags } ∷ [])
        ∙ ap
        (λ b. filter (λ (g : FileClient). not (files.is_client c g)) fs.clients ++ cond (not b) (record { client = c; flags = flags } ∷ []) [])
        (eq-eqb c c refl)
        ∙ append-nil (filter (λ (g : FileClient). not (files.is_client c g)) fs.clients)
        ∙ filter_all (λ (g : FileClient). not (files.is_client c g)) fs.clients others

    holds : filter (λ (x : FileHandle). not (files.of_client c x)) fs.holds ≡ fs.holds
    holds =
        filter_all (λ (x : FileHandle). not (files.of_client c x)) fs.holds
        (all_weaker (IsHandleOf fs) (λ (x : FileHandle). not (files.of_client c x) ≡ true) (λ x h. ap not (its_client x h.client_open)) fs.holds are.holds_are)
      where
        its_client : (x : FileHandle) → is_open_client fs x.client ≡ true → (x.client == c) ≡ false
        its_client x there =
            (elim (x.client == c) as (λ b. (x.client == c) ≡ b → b ≡ false) [ true ↦ λ e. absurd (let j : false ≡ true = sym (not_there c fs.clients newest) ∙ ap (is_open_client fs) (sym (eqb-true x.client c e)) ∙ there in cc) | false ↦ λ e. refl ])
            refl

-- ---- one more client

-- the state with a client that belongs to masters so, with these leases
abbrev pub joined : State → ℕ → FileFlags → MasterSet → LeaseSet → State
joined s c flags set l = record s { files = with_file s.files c flags; masters = set; leases = l }

have_more : (v : MasterSet) (set : MasterSet) (m : Member) → set.members ≡ v.members ++ m ∷ [] → (f : FileClient)
    → HasMaster v f → HasMaster set f
have_more v set m e f h =
    ap (λ l. f.flags.render || is_some (masters.member_of l f.client)) e ∙ by_render f.flags.render h
  where
    by_render : (b : Bool) → (b || is_some (masters.member_of v.members f.client)) ≡ true
        → (b || is_some (masters.member_of (v.members ++ m ∷ []) f.client)) ≡ true
    by_render true k = refl
    by_render false k =
        is_some-find (masters.is_client f.client) (v.members ++ m ∷ [])
        ∙ list_any_left (masters.is_client f.client) v.members (m ∷ [])
        (sym (is_some-find (masters.is_client f.client) v.members) ∙ k)

-- One client more, which belongs to a master, keeps all invariants.
pub joined_invariants : (s : State) (flags : FileFlags) (m : Member) (set : MasterSet) (l : LeaseSet)
    → MeetsInvariants s → set.members ≡ s.masters.members ++ m ∷ [] → AreMasters set → AreLeases l
    → AreOfLessees l.tokens set.masters → AreKeptBy l.tokens set.masters → AreAgreed l set →
    set.last_magic ≡ s.masters.last_magic → (invariant : Invariant) → meets_invariant invariant
    (joined s m.client flags set l)
unfolding meets_invariant
joined_invariants s flags m set l t e are leases lessees kept agreed last MembersOpen =
    let f : FileClient = record { client = m.client; flags = flags } in
    subst (AllByRecursion (λ (x : Member). is_open_client (with_file s.files m.client flags) x.client ≡ true)) (sym e)
    (all_append _ s.masters.members (m ∷ []) (members_open_yet f s.files.clients s.masters.members (members_open s t)) (found_last f s.files.clients, tt))
joined_invariants s flags m set l t e are leases lessees kept agreed last ClientsHave =
    all_append (HasMaster set) s.files.clients (record { client = m.client; flags = flags } ∷ [])
    (all_weaker (HasMaster s.masters) (HasMaster set) (λ f h. have_more s.masters set m e f h) s.files.clients (clients_have s t))
    (ap (λ l. flags.render || is_some (masters.member_of l m.client)) e ∙ or_right flags.render _ (is_some-find (masters.is_client m.client) (s.masters.members ++ m ∷ []) ∙ list_any_right (masters.is_client m.client) s.masters.members (m ∷ []) (or_left (m.client == m.client) false (eq-eqb m.client m.client refl))), tt)
joined_invariants s flags m set l t e are leases lessees kept agreed last MastersAre = are
joined_invariants s flags m set l t e are leases lessees kept agreed last MagicsSuffice = last ∙ magics_suffice s t
joined_invariants s flags m set l t e are leases lessees kept agreed last LeasesAre = leases
joined_invariants s flags m set l t e are leases lessees kept agreed last TokensOfLessees = lessees
joined_invariants s flags m set l t e are leases lessees kept agreed last KeptHaveTokens = kept
joined_invariants s flags m set l t e are leases lessees kept agreed last LeasesAgree = agreed
joined_invariants s flags m set l t e are leases lessees kept agreed last invariant = t invariant

-- A client without a magic adds no row of magics.
pub no_magic_more : (m : Member) → m.magic ≡ None → (xs : List Member)
    → filter_map magic_row_of (xs ++ m ∷ []) ≡ filter_map magic_row_of xs
no_magic_more m e [] =
    ap
    (λ (g : Option Magic). cons_option (option_map (λ (d : Magic). record { master = m.master; number = d.number; client = m.client; spent = d.spent }) g) [])
    e
no_magic_more m e (x ∷ xs) = ap (cons_option (magic_row_of x)) (no_magic_more m e xs)

-- The state with a client that is no master represents the rows with it.
pub non_master_represents : (s : State) (w : Rows) (flags : FileFlags) (m : Member) (row : ClientRow)
    → MeetsInvariants s → IsLater s m.client → m.magic ≡ None
    → client_row_by (record { client = m.client; flags = flags }) (Some m) ≡ row → Represents s w →
    (part : Part)
    → represents_part part (joined s m.client flags (with_last_member m s.masters) s.leases) (record w { clients = w.clients ++ row ∷ [] })
unfolding represents_part
non_master_represents s w flags m row t later none r h Clients =
    ap (λ l. l ++ row ∷ []) (clients_are s w h) ∙ ap (λ x. clients_of s ++ x ∷ []) (sym r)
    ∙ sym (client_pushed flags m s.files.clients s.masters.members later.clients (members_open s t))
non_master_represents s w flags m row t later none r h Magics =
    subst (SameRows w.magics) (sym (no_magic_more m none s.masters.members)) (magics_are s w h)
non_master_represents s w flags m row t later none r h part = h part

-- The state with a client that opens a new master represents the rows with both.
pub opener_represents : (s : State) (w : Rows) (flags : FileFlags) (m : Member) (z : Master) (row : ClientRow) (master : MasterRow)
    → MeetsInvariants s → IsLater s m.client → m.magic ≡ None
    → client_row_by (record { client = m.client; flags = flags }) (Some m) ≡ row
    → master_row_of s.leases.tokens z ≡ master → Represents s w →
    (part : Part)
    → represents_part part (joined s m.client flags (with_device (Some z.step_number) (with_last_member m (with_last_master z s.masters))) s.leases) (record w { masters = w.masters ++ master ∷ []; device_master = Some master.master; clients = w.clients ++ row ∷ [] })
unfolding represents_part
opener_represents s w flags m z row master t later none r k h Clients =
    ap (λ l. l ++ row ∷ []) (clients_are s w h) ∙ ap (λ x. clients_of s ++ x ∷ []) (sym r)
    ∙ sym (client_pushed flags m s.files.clients s.masters.members later.clients (members_open s t))
opener_represents s w flags m z row master t later none r k h Masters =
    ap (λ l. l ++ master ∷ []) (masters_are s w h) ∙ ap (λ x. masters_of s ++ x ∷ []) (sym k)
    ∙ sym (map-append (master_row_of s.leases.tokens) s.masters.masters (z ∷ []))
opener_represents s w flags m z row master t later none r k h Magics =
    subst (SameRows w.magics) (sym (no_magic_more m none s.masters.members)) (magics_are s w h)
opener_represents s w flags m z row master t later none r k h DeviceMaster =
    ap (λ (x : MasterRow). Some x.master) (sym k)
opener_represents s w flags m z row master t later none r k h part = h part

-- ---- one more render client, which does not belong to masters

rows_rendered : (s : State) (w : Rows) (c : ℕ) (flags : FileFlags) (row : ClientRow) → MeetsInvariants s → IsLater s c
    → client_row_by (record { client = c; flags = flags }) None ≡ row → Represents s w →
    (part : Part)
    → represents_part part (record s { files = with_file s.files c flags }) (record w { clients = w.clients ++ row ∷ [] })
unfolding represents_part
rows_rendered s w c flags row t later r h Clients =
    ap (λ l. l ++ row ∷ []) (clients_are s w h) ∙ ap (λ x. clients_of s ++ x ∷ []) (sym r)
    ∙ sym
    (render_pushed (record { client = c; flags = flags }) s.files.clients s.masters.members later.clients (members_open s t))
rows_rendered s w c flags row t later r h part = h part

-- The state with one render client more represents the rows with it.
pub rendered_represents : (s : State) (w : Rows) (fs : FileLists) (c : ℕ) (flags : FileFlags) (row : ClientRow)
    → MeetsInvariants s → IsLater s c → fs ≡ with_file s.files c flags
    → client_row_by (record { client = c; flags = flags }) None ≡ row → Represents s w →
    Represents (record s { files = fs }) (record w { clients = w.clients ++ row ∷ [] })
rendered_represents s w fs c flags row t later e r h =
    subst (λ l. Represents (record s { files = l }) (record w { clients = w.clients ++ row ∷ [] })) (sym e)
    (rows_rendered s w c flags row t later r h)

ties_rendered : (s : State) (c : ℕ) (flags : FileFlags) → flags.render ≡ true → MeetsInvariants s
    → (invariant : Invariant) → meets_invariant invariant (record s { files = with_file s.files c flags })
unfolding meets_invariant
ties_rendered s c flags render t MembersOpen =
    members_open_yet (record { client = c; flags = flags }) s.files.clients s.masters.members (members_open s t)
ties_rendered s c flags render t ClientsHave =
    all_append (HasMaster s.masters) s.files.clients (record { client = c; flags = flags } ∷ []) (clients_have s t)
    (ap (λ b. b || is_some (masters.member_of s.masters.members c)) render, tt)
ties_rendered s c flags render t invariant = t invariant

-- One render client more keeps all invariants.
pub rendered_invariants : (s : State) (fs : FileLists) (c : ℕ) (flags : FileFlags) → flags.render ≡ true
    → MeetsInvariants s → fs ≡ with_file s.files c flags → MeetsInvariants (record s { files = fs })
rendered_invariants s fs c flags render t e =
    subst (λ l. MeetsInvariants (record s { files = l })) (sym e) (ties_rendered s c flags render t)

-- No more clients belong to masters than are open.
pub fewer_members : (ms : List Member) (fs : List FileClient) → InOrder (λ (x y : Member). x.client < y.client) ms
    → AllByRecursion (λ (x : Member). is_some (find (files.is_client x.client) fs) ≡ true) ms → length ms ≤ length fs
fewer_members [] fs h there = omega arith
fewer_members (m ∷ ms) fs h there =
    let less = filter (λ (f : FileClient). not (files.is_client m.client f)) fs in
    let rest = fewer_members ms less h.1 (all_both (λ (x : Member). m.client < x.client) (λ (x : Member). is_some (find (files.is_client x.client) fs) ≡ true) (λ (x : Member). is_some (find (files.is_client x.client) less) ≡ true)
    (λ x lt e. ap is_some (find_others (λ (f : FileClient). f.client) x.client m.client (flipped m.client x.client (less-differ m.client x.client lt)) fs) ∙ e) ms h.0 there.1) in
    let lt = filter-fewer (files.is_client m.client) fs (sym (is_some-find (files.is_client m.client) fs) ∙ there.0) in
    omega (arith, rest, lt)

-- If one more client may be open, one more may belong to masters.
pub room_for : (s : State) → MeetsInvariants s → length s.files.clients < s.files.limit
    → length s.masters.members < s.masters.last_magic
room_for s t lt =
    let few = fewer_members s.masters.members s.files.clients (masters_so s t).members_rise (members_open s t) in
    let last = magics_suffice s t in
    omega (arith, few, lt, last)

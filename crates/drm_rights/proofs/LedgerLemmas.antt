-- A ledger of one step more is that of a history of one step more.
use Rattle.std.specs.Prelude.{if◌then◌else◌}
use Rattle.std.proofs.Common.{◌≡◌, ℕ, ◌==◌, Bool, true, false, cond, ◌&&◌, ◌||◌, List, [], ◌∷◌, ◌++◌, Option, None, Some, option_map, option_and_then, option_to_list, refl, sym, ◌∙◌, ap, subst}
use Rattle.std.specs.Option.{option_map_or}
use Rattle.drm_history.specs.History.{AnsweredEvent, next_number}
use Rattle.drm_history.specs.Effects as told
use Rattle.drm_history.specs.Effects.{effect}
use Rattle.drm_history.specs.MasterState as standings
use Rattle.drm_history.specs.MasterState.{owner_in, is_master_in, master_in, caller_master_in, lease_in, put, master_state, transition, with_primary, with_set}
use Rattle.drm_history.specs.Lessees.{ended_by}
use Rattle.drm_history.specs.Magics.{magic_in, magic_by, is_root_in, is_root_by, is_named_in, is_named_by}
use Rattle.drm_model.specs.ClientCapabilities.{ClientCapabilities, cap_universal_planes, opening_capabilities, with_capability}
use Rattle.drm_history.specs.Shown as shown
use Rattle.drm_history.specs.Shown.{capabilities_by}
use Rattle.drm_model.specs.Rows.{is_option}
use Rattle.drm_rights.specs.Leases.{new_lease, leases_in, end_with, ends_in}
use Rattle.drm_rights.specs.Ledgers.{IsLedger, master_state_of, magic_of, is_master_noted, master_noted, client_noted, is_named_noted, is_root_noted, capability_of, is_universal_noted, noted, opened, capable, new_master_state, new_magic, authenticated_by, new_authentication, new_root, new_capability, is_same_master, owner_since_in, standings_in, authentications_in, capabilities_in}
use Rattle.drm_rights.specs.declared.notes.MasterState.{MasterState}
use Rattle.drm_rights.specs.declared.notes.Lease.{Lease}
use Rattle.drm_rights.specs.declared.notes.End.{End}
use Rattle.drm_rights.specs.declared.notes.Magic.{Magic}
use Rattle.drm_rights.specs.declared.notes.Authentication.{Authentication}
use Rattle.drm_rights.specs.declared.notes.Capability.{Capability}
use Rattle.drm_trails.proofs.NoteLemmas.{find-newest, any-newest, append-none}

-- ---- master states

map_or-if : (b : Bool) (note : MasterState) (older : Option MasterState)
    → option_map_or (λ (s : MasterState). s.is_master) (cond b (Some note) older) false ≡ cond b note.is_master (option_map_or (λ (s : MasterState). s.is_master) older false)
map_or-if true note older = refl
map_or-if false note older = refl

then-if : (b : Bool) (note : MasterState) (older : Option MasterState)
    → option_and_then (λ (s : MasterState). s.master) (cond b (Some note) older) ≡ cond b note.master (option_and_then (λ (s : MasterState). s.master) older)
then-if true note older = refl
then-if false note older = refl

-- a note of a client is told of it alone
is_master-put : (notes : List MasterState) (note : MasterState) (d : ℕ)
    → is_master_noted (notes ++ note ∷ []) d ≡ cond (d == note.client) note.is_master (is_master_noted notes d)
is_master-put notes note d =
    ap (λ o. option_map_or (λ (s : MasterState). s.is_master) o false)
    (find-newest (λ (s : MasterState). d == s.client) notes note)
    ∙ map_or-if (d == note.client) note (master_state_of notes d)

master-put : (notes : List MasterState) (note : MasterState) (d : ℕ)
    → master_noted (notes ++ note ∷ []) d ≡ cond (d == note.client) note.master (master_noted notes d)
master-put notes note d =
    ap (λ o. option_and_then (λ (s : MasterState). s.master) o)
    (find-newest (λ (s : MasterState). d == s.client) notes note)
    ∙ then-if (d == note.client) note (master_state_of notes d)

-- the notes have what a master state has of clients
pub record Stands (notes : List MasterState) (is_master : ℕ → Bool) (master : ℕ → Option ℕ) : Type 0 where
  pub are_masters : (c : ℕ) → is_master_noted notes c ≡ is_master c
  pub masters : (c : ℕ) → master_noted notes c ≡ master c

stands_put : (notes : List MasterState) (note : MasterState) (is_master : ℕ → Bool) (master : ℕ → Option ℕ)
    → Stands notes is_master master →
    Stands (notes ++ note ∷ []) (put note.client note.is_master is_master) (put note.client note.master master)
stands_put notes note is_master master k = record {
  are_masters = λ d. is_master-put notes note d ∙ ap (λ b. cond (d == note.client) note.is_master b) (k.are_masters d);
  masters = λ d. master-put notes note d ∙ ap (λ o. cond (d == note.client) note.master o) (k.masters d);
}

stands_still : (notes : List MasterState) (is_master : ℕ → Bool) (master : ℕ → Option ℕ) → Stands notes is_master master
    → Stands (notes ++ []) is_master master
stands_still notes is_master master k = record {
  are_masters = λ c. ap (λ l. is_master_noted l c) (append-none notes) ∙ k.are_masters c;
  masters = λ c. ap (λ l. master_noted l c) (append-none notes) ∙ k.masters c;
}

stands_opened : (notes : List MasterState) (number : ℕ) (owner : Option ℕ) (s : standings.MasterState)
    → Stands notes s.is_master s.master →
    Stands (notes ++ opened number owner ∷ []) (with_primary number owner s).is_master
    (with_primary number owner s).master
stands_opened notes number None s k = stands_put notes (noted number number true (Some number)) s.is_master s.master k
stands_opened notes number (Some owner) s k =
    stands_put notes (noted number number false (Some owner)) s.is_master s.master k

stands_set : (notes : List MasterState) (number c : ℕ) (is_master : Bool) (s : standings.MasterState)
    → Stands notes s.is_master s.master →
    Stands (notes ++ option_to_list (cond is_master None (Some (noted number c true (Some number)))))
    (with_set number c is_master s).is_master (with_set number c is_master s).master
stands_set notes number c true s k = stands_still notes s.is_master s.master k
stands_set notes number c false s k = stands_put notes (noted number c true (Some number)) s.is_master s.master k

-- With one more step, the notes of masters say what the history does.
pub stands_after : (notes : List MasterState) (d : told.Effect) (number : ℕ) (lease : ℕ → Option ℕ) (s : standings.MasterState)
    → Stands notes s.is_master s.master →
    Stands (notes ++ option_to_list (new_master_state d number lease s)) (transition d number lease s).is_master
    (transition d number lease s).master
stands_after notes (told.OpensPrimary root capabilities) number lease s k = stands_opened notes number s.owner s k
stands_after notes told.OpensRender number lease s k =
    stands_put notes (noted number number false None) s.is_master s.master k
stands_after notes (told.Redeems token root capabilities) number lease s k =
    stands_put notes (noted number number true (lease token)) s.is_master s.master k
stands_after notes (told.SetsMaster c) number lease s k = stands_set notes number c (s.is_master c) s k
stands_after notes _ number lease s k = stands_still notes s.is_master s.master k

-- ---- magics

if-client : (b : Bool) (note : Magic) (older : Option Magic)
    → option_map (λ (g : Magic). g.client) (cond b (Some note) older) ≡ cond b (Some note.client) (option_map (λ (g : Magic). g.client) older)
if-client true note older = refl
if-client false note older = refl

magic_put : (notes : List Magic) (note : Magic) (master number : ℕ) →
    client_noted (notes ++ note ∷ []) master number ≡ cond ((note.number == number) && (note.master == master))
    (Some note.client) (client_noted notes master number)
magic_put notes note master number =
    ap (option_map (λ (g : Magic). g.client))
    (find-newest (λ (g : Magic). (g.number == number) && (g.master == master)) notes note)
    ∙ if-client ((note.number == number) && (note.master == master)) note (magic_of notes master number)

magic_still : (notes : List Magic) (master number : ℕ)
    → client_noted (notes ++ []) master number ≡ client_noted notes master number
magic_still notes master number = ap (λ l. client_noted l master number) (append-none notes)

-- With one more step, the notes of magics say what the history does.
pub magics_after : (notes : List Magic) (d : told.Effect) (past : List AnsweredEvent) (number master magic : ℕ)
    → client_noted notes master magic ≡ magic_in past master magic →
    client_noted (notes ++ option_to_list (new_magic d number (caller_master_in past))) master magic ≡ magic_by d past
    master magic (magic_in past master magic)
magics_after notes (told.GetsMagic c answered) past number master magic k =
    magic_put notes (record { step = number; master = caller_master_in past c; number = answered; client = c }) master
    magic
    ∙ ap (λ o. cond ((answered == magic) && (caller_master_in past c == master)) (Some c) o) k
magics_after notes _ past number master magic k = magic_still notes master magic ∙ k

-- ---- authentication

named_still : (notes : List Authentication) (c : ℕ) → is_named_noted (notes ++ []) c ≡ is_named_noted notes c
named_still notes c = ap (λ l. is_named_noted l c) (append-none notes)

named_by : (notes : List Authentication) (number caller magic c : ℕ) (client : Option ℕ)
    → is_named_noted (notes ++ option_to_list (authenticated_by number caller magic client)) c ≡ (is_option c client || is_named_noted notes c)
named_by notes number caller magic c None = named_still notes c
named_by notes number caller magic c (Some named) =
    any-newest (λ (a : Authentication). a.client == c) notes
    (record { step = number; client = named; by = caller; magic = magic })

-- With one more step, the notes of authentications say what the history does.
pub named_after : (notes : List Authentication) (d : told.Effect) (past : List AnsweredEvent) (number c : ℕ)
    → is_named_noted notes c ≡ is_named_in past c →
    is_named_noted (notes ++ option_to_list (new_authentication d number (caller_master_in past) (magic_in past))) c ≡
    (is_named_by d past c || is_named_in past c)
named_after notes (told.Authenticates caller magic) past number c k =
    named_by notes number caller magic c (magic_in past (caller_master_in past caller) magic)
    ∙ ap (λ b. is_option c (magic_in past (caller_master_in past caller) magic) || b) k
named_after notes _ past number c k = named_still notes c ∙ k

-- ---- root

roots_by : (notes : List ℕ) (root : Bool) (number c : ℕ)
    → is_root_noted (notes ++ option_to_list (cond root (Some number) None)) c ≡ ((root && (number == c)) || is_root_noted notes c)
roots_by notes true number c = any-newest (λ client. client == c) notes number
roots_by notes false number c = ap (λ l. is_root_noted l c) (append-none notes)

-- With one more step, the notes of root openings say what the history does.
pub roots_after : (notes : List ℕ) (d : told.Effect) (number c : ℕ) (older : Bool) → is_root_noted notes c ≡ older
    → is_root_noted (notes ++ option_to_list (new_root d number)) c ≡ (is_root_by d number c || older)
roots_after notes (told.OpensPrimary root capabilities) number c older k =
    roots_by notes root number c ∙ ap (λ b. (root && (number == c)) || b) k
roots_after notes (told.Redeems token root capabilities) number c older k =
    roots_by notes root number c ∙ ap (λ b. (root && (number == c)) || b) k
roots_after notes _ number c older k = ap (λ l. is_root_noted l c) (append-none notes) ∙ k

-- ---- capabilities

if-universal : (b : Bool) (note : Capability) (older : Option Capability)
    → option_map_or (λ (k : Capability). k.universal) (cond b (Some note) older) false ≡ cond b note.universal (option_map_or (λ (k : Capability). k.universal) older false)
if-universal true note older = refl
if-universal false note older = refl

capability_put : (notes : List Capability) (note : Capability) (c : ℕ)
    → is_universal_noted (notes ++ note ∷ []) c ≡ cond (note.client == c) note.universal (is_universal_noted notes c)
capability_put notes note c =
    ap (λ o. option_map_or (λ (k : Capability). k.universal) o false)
    (find-newest (λ (k : Capability). k.client == c) notes note)
    ∙ if-universal (note.client == c) note (capability_of notes c)

planes_by : (b : Bool) (new older : ClientCapabilities)
    → cond b new.universal_planes older.universal_planes ≡ (cond b new older).universal_planes
planes_by true new older = refl
planes_by false new older = refl

same_by : {X : Type 0} (b : Bool) (x : X) → x ≡ cond b x x
same_by true x = refl
same_by false x = refl

universal_opened : (notes : List Capability) (number c : ℕ) (set older : ClientCapabilities)
    → is_universal_noted notes c ≡ older.universal_planes →
    is_universal_noted (notes ++ capable number number set.universal_planes ∷ []) c ≡
    (cond (number == c) set older).universal_planes
universal_opened notes number c set older k =
    capability_put notes (capable number number set.universal_planes) c ∙ ap (cond (number == c) set.universal_planes) k
    ∙ planes_by (number == c) set older

universal_set : (notes : List Capability) (number client c : ℕ) (on : Bool) (older : ClientCapabilities) (is : Bool)
    → is_universal_noted notes c ≡ older.universal_planes →
    is_universal_noted (notes ++ option_to_list (cond is (Some (capable number client on)) None)) c ≡ cond (client == c)
    (cond is on older.universal_planes) older.universal_planes
universal_set notes number client c on older true k =
    capability_put notes (capable number client on) c ∙ ap (cond (client == c) on) k
universal_set notes number client c on older false k =
    ap (λ l. is_universal_noted l c) (append-none notes) ∙ k ∙ same_by (client == c) older.universal_planes

-- With one more step, the notes of universal planes say what the history does.
pub capabilities_after : (notes : List Capability) (d : told.Effect) (number c : ℕ) (older : ClientCapabilities)
    → is_universal_noted notes c ≡ older.universal_planes
    → is_universal_noted (notes ++ option_to_list (new_capability d number)) c ≡ (capabilities_by d number c older).universal_planes
capabilities_after notes (told.OpensPrimary root capabilities) number c older k =
    universal_opened notes number c capabilities older k
capabilities_after notes told.OpensRender number c older k =
    universal_opened notes number c (opening_capabilities true) older k
capabilities_after notes (told.Redeems token root capabilities) number c older k =
    universal_opened notes number c capabilities older k
capabilities_after notes (told.SetsCapability client cap on) number c older k =
    universal_set notes number client c on older (cap == cap_universal_planes) k
    ∙ planes_by (client == c) (with_capability cap on older) older
capabilities_after notes _ number c older k = ap (λ l. is_universal_noted l c) (append-none notes) ∙ k

-- ---- a step more

-- A history without steps has an empty ledger.
pub no_ledger : IsLedger [] None 0 [] [] [] [] [] [] []
unfolding master_state owner_since_in standings_in authentications_in capabilities_in leases_in ends_in magic_in is_named_in is_root_in shown.capabilities_in
no_ledger = record {
  owners = refl;
  since = refl;
  stand = refl;
  are_masters = λ c. refl;
  masters = λ c. refl;
  lent = refl;
  ended = refl;
  told_magics = λ master number. refl;
  named = λ c. refl;
  authenticated = refl;
  opened_as_root = λ c. refl;
  capable = refl;
  universals = λ c. refl;
}

-- The ledger of one more step is that of the history with the step.
pub ledger_after : (past : List AnsweredEvent) (step : AnsweredEvent) (owner owner' : Option ℕ) (owner_since since' : ℕ) (standings' : List MasterState) (leases : List Lease) (ends : List End) (magics : List Magic) (authentications : List Authentication) (roots : List ℕ) (capabilities : List Capability) →
    IsLedger past owner owner_since standings' leases ends magics authentications roots capabilities → owner' ≡
    (transition (effect step) (next_number past) (lease_in past) (master_state past)).owner → since' ≡
    (if is_same_master (owner_in past) owner' then owner_since_in past else next_number past) →
    IsLedger (step ∷ past) owner' since'
    (standings' ++ option_to_list (new_master_state (effect step) (next_number past) (lease_in past) (master_state past)))
    (leases ++ option_to_list (new_lease (effect step) past))
    (ends ++ option_to_list (end_with past (ended_by (effect step) past)))
    (magics ++ option_to_list (new_magic (effect step) (next_number past) (caller_master_in past)))
    (authentications ++ option_to_list (new_authentication (effect step) (next_number past) (caller_master_in past) (magic_in past)))
    (roots ++ option_to_list (new_root (effect step) (next_number past)))
    (capabilities ++ option_to_list (new_capability (effect step) (next_number past)))
unfolding master_state owner_since_in standings_in authentications_in capabilities_in leases_in ends_in magic_in is_named_in is_root_in shown.capabilities_in
ledger_after past step owner owner' owner_since since' standings' leases ends magics authentications roots capabilities k its_owner its_since =
    let number = next_number past in
    let stand =
    stands_after standings' (effect step) number (lease_in past) (master_state past)
    (record { are_masters = k.are_masters; masters = k.masters }) in
    record {
      owners = its_owner;
      since = its_since ∙ ap (λ o. if is_same_master (owner_in past) o then owner_since_in past else number) its_owner;
      stand =
          ap (λ l. l ++ option_to_list (new_master_state (effect step) number (lease_in past) (master_state past)))
          k.stand;
      are_masters = stand.are_masters;
      masters = stand.masters;
      lent = ap (λ l. l ++ option_to_list (new_lease (effect step) past)) k.lent;
      ended = ap (λ l. l ++ option_to_list (end_with past (ended_by (effect step) past))) k.ended;
      told_magics =
          λ master magic. magics_after magics (effect step) past number master magic (k.told_magics master magic);
      named = λ c. named_after authentications (effect step) past number c (k.named c);
      authenticated =
          ap
          (λ l. l ++ option_to_list (new_authentication (effect step) number (caller_master_in past) (magic_in past)))
          k.authenticated;
      opened_as_root = λ c. roots_after roots (effect step) number c (is_root_in past c) (k.opened_as_root c);
      capable = ap (λ l. l ++ option_to_list (new_capability (effect step) number)) k.capable;
      universals =
          λ c. capabilities_after capabilities (effect step) number c (shown.capabilities_in past c) (k.universals c);
    }

-- A ledger of a history carries over to equal notes.
pub ledger_along : (past past' : List AnsweredEvent) (owner : Option ℕ) (since : ℕ) (standings' standings'' : List MasterState) (leases leases' : List Lease) (ends ends' : List End) (magics magics' : List Magic) (authentications authentications' : List Authentication) (roots roots' : List ℕ) (capabilities capabilities' : List Capability) →
    past' ≡ past → standings'' ≡ standings' → leases' ≡ leases → ends' ≡ ends → magics' ≡ magics → authentications' ≡
    authentications → roots' ≡ roots → capabilities' ≡ capabilities →
    IsLedger past owner since standings' leases ends magics authentications roots capabilities → IsLedger past' owner
    since standings'' leases' ends' magics' authentications' roots' capabilities'
ledger_along past past' owner since standings' standings'' leases leases' ends ends' magics magics' authentications authentications' roots roots' capabilities capabilities' h s l e m a r b k =
    subst
    (λ (x : List AnsweredEvent × List MasterState × List Lease × List End × List Magic × List Authentication × List ℕ × List Capability). IsLedger x.0 owner since x.1 x.2 x.3 x.4 x.5 x.6 x.7)
    (λ i. (sym h i, sym s i, sym l i, sym e i, sym m i, sym a i, sym r i, sym b i)) k

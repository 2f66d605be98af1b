-- The entries of a ledger of a history (own): of several entries for the same item, the newest counts.
use Rattle.std.specs.Prelude.{◌≡◌, ℕ, ◌==◌, Bool, true, false, not, ◌&&◌, List, [], ◌∷◌, ◌++◌, Option, None, Some, find, reverse, option_and_then, option_map, option_to_list, if◌then◌else◌}
use Rattle.std.specs.List.{list_any}
use Rattle.std.specs.Option.{option_map_or, option_or}
use Rattle.drm_modes.specs.Topology.{Topology}
use Rattle.drm_model.specs.ClientCapabilities.{cap_universal_planes}
use Rattle.drm_model.specs.Rows.{is_option}
use Rattle.drm_history.specs.History.{AnsweredEvent, next_number}
use Rattle.drm_history.specs.Effects as told
use Rattle.drm_history.specs.Effects.{effect}
use Rattle.drm_history.specs.MasterState as standings
use Rattle.drm_history.specs.MasterState.{owner_in, is_master_in, master_in, caller_master_in, lease_in}
use Rattle.drm_history.specs.Lessees.{top_in, is_controlled, granted}
use Rattle.drm_history.specs.Magics.{magic_in, is_root_in, is_named_in}
use Rattle.drm_history.specs.Shown.{is_universal_in}
use Rattle.drm_rights.specs.Leases.{leases_in, ends_in}
use Rattle.drm_rights.specs.declared.notes.MasterState.{MasterState}
use Rattle.drm_rights.specs.declared.notes.Lease.{Lease}
use Rattle.drm_rights.specs.declared.notes.End.{End}
use Rattle.drm_rights.specs.declared.notes.Magic.{Magic}
use Rattle.drm_rights.specs.declared.notes.Authentication.{Authentication}
use Rattle.drm_rights.specs.declared.notes.Capability.{Capability}

-- the newest master state of a client
abbrev pub master_state_of : List MasterState → ℕ → Option MasterState
master_state_of notes c = find (λ (s : MasterState). c == s.client) (reverse notes)

-- whether the client has an own master
abbrev pub is_master_noted : List MasterState → ℕ → Bool
is_master_noted notes c = option_map_or (λ (s : MasterState). s.is_master) (master_state_of notes c) false

-- the client's master
abbrev pub master_noted : List MasterState → ℕ → Option ℕ
master_noted notes c = option_and_then (λ (s : MasterState). s.master) (master_state_of notes c)

-- the newest entry of a magic under a master
abbrev pub magic_of : List Magic → ℕ → ℕ → Option Magic
magic_of notes master number = find (λ (g : Magic). (g.number == number) && (g.master == master)) (reverse notes)

-- the client that last received a magic under a master
abbrev pub client_noted : List Magic → ℕ → ℕ → Option ℕ
client_noted notes master number = option_map (λ (g : Magic). g.client) (magic_of notes master number)

-- whether AUTH_MAGIC named the client's magic
abbrev pub is_named_noted : List Authentication → ℕ → Bool
is_named_noted notes c = list_any (λ (a : Authentication). a.client == c) notes

-- whether the client opened as root
abbrev pub is_root_noted : List ℕ → ℕ → Bool
is_root_noted notes c = list_any (λ client. client == c) notes

-- the newest capability of a client
abbrev pub capability_of : List Capability → ℕ → Option Capability
capability_of notes c = find (λ (k : Capability). k.client == c) (reverse notes)

-- whether the client has universal planes on
abbrev pub is_universal_noted : List Capability → ℕ → Bool
is_universal_noted notes c = option_map_or (λ (k : Capability). k.universal) (capability_of notes c) false

-- the master state of a client from a step on
abbrev pub noted : ℕ → ℕ → Bool → Option ℕ → MasterState
noted number c is_master master = record { step = number; client = c; is_master = is_master; master = master }

-- the master state of a newly opened primary client
abbrev pub opened : ℕ → Option ℕ → MasterState
opened number None = noted number number true (Some number)
opened number (Some owner) = noted number number false (Some owner)

-- the entry of a step for the client whose master state it changes
abbrev pub new_master_state : told.Effect → ℕ → (ℕ → Option ℕ) → standings.MasterState → Option MasterState
new_master_state (told.OpensPrimary root capabilities) number lease s = Some (opened number s.owner)
new_master_state told.OpensRender number lease s = Some (noted number number false None)
new_master_state (told.Redeems token root capabilities) number lease s = Some (noted number number true (lease token))
new_master_state (told.SetsMaster c) number lease s =
    if s.is_master c then None else Some (noted number c true (Some number))
new_master_state _ number lease s = None

-- the entry of a step that answers a magic
abbrev pub new_magic : told.Effect → ℕ → (ℕ → ℕ) → Option Magic
new_magic (told.GetsMagic c answered) number own =
    Some (record { step = number; master = own c; number = answered; client = c })
new_magic _ number own = None

-- the entry of an AUTH_MAGIC, if a client has the magic
abbrev pub authenticated_by : ℕ → ℕ → ℕ → Option ℕ → Option Authentication
authenticated_by number caller magic None = None
authenticated_by number caller magic (Some c) = Some (record { step = number; client = c; by = caller; magic = magic })

-- the entry of a step that authenticates a client
abbrev pub new_authentication : told.Effect → ℕ → (ℕ → ℕ) → (ℕ → ℕ → Option ℕ) → Option Authentication
new_authentication (told.Authenticates caller magic) number own client =
    authenticated_by number caller magic (client (own caller) magic)
new_authentication _ number own client = None

-- the client that a step opens as root
abbrev pub new_root : told.Effect → ℕ → Option ℕ
new_root (told.OpensPrimary root capabilities) number = if root then Some number else None
new_root (told.Redeems token root capabilities) number = if root then Some number else None
new_root _ number = None

-- the capability of a client from a step on
abbrev pub capable : ℕ → ℕ → Bool → Capability
capable number c universal = record { step = number; client = c; universal = universal }

-- the entry of a step that sets universal planes
abbrev pub new_capability : told.Effect → ℕ → Option Capability
new_capability (told.OpensPrimary root capabilities) number = Some (capable number number capabilities.universal_planes)
new_capability told.OpensRender number = Some (capable number number true)
new_capability (told.Redeems token root capabilities) number =
    Some (capable number number capabilities.universal_planes)
new_capability (told.SetsCapability c cap on) number =
    if cap == cap_universal_planes then Some (capable number c on) else None
new_capability _ number = None

-- ---- the entries of a history, the oldest first

-- the master states
unfoldable pub standings_in : List AnsweredEvent → List MasterState
standings_in [] = []
standings_in (step ∷ past) =
    standings_in past ++ option_to_list
    (new_master_state (effect step) (next_number past) (lease_in past) (standings.master_state past))

-- the authentications
unfoldable pub authentications_in : List AnsweredEvent → List Authentication
authentications_in [] = []
authentications_in (step ∷ past) =
    authentications_in past ++ option_to_list
    (new_authentication (effect step) (next_number past) (caller_master_in past) (magic_in past))

-- the capabilities
unfoldable pub capabilities_in : List AnsweredEvent → List Capability
capabilities_in [] = []
capabilities_in (step ∷ past) = capabilities_in past ++ option_to_list (new_capability (effect step) (next_number past))

-- the first AUTH_MAGIC that named a client's magic
abbrev pub authentication_of : List Authentication → ℕ → Option Authentication
authentication_of notes c = find (λ (a : Authentication). a.client == c) notes

-- whether the device's master is the same
abbrev pub is_same_master : Option ℕ → Option ℕ → Bool
is_same_master None None = true
is_same_master (Some m) (Some n) = m == n
is_same_master _ _ = false

-- the step since which the device's master has been the same; 0 if it never changed
unfoldable pub owner_since_in : List AnsweredEvent → ℕ
owner_since_in [] = 0
owner_since_in (step ∷ past) =
    if is_same_master (owner_in past) (owner_in (step ∷ past)) then owner_since_in past else next_number past

-- whether a master state is that of a client opened by the token of this lessee
abbrev pub is_redemption : ℕ → MasterState → Bool
is_redemption lessee s =
    (s.step == s.client) && (s.is_master && (is_option lessee s.master && not (s.client == lessee)))

-- the client that a step opens by the token of a lessee
abbrev pub redeemed_by : told.Effect → List AnsweredEvent → ℕ → Option ℕ
redeemed_by (told.Redeems token root capabilities) past lessee =
    if is_option lessee (lease_in past token) then Some (next_number past) else None
redeemed_by _ past lessee = None

-- the client that redeemed the lease of a lessee, named by the step that opened it
unfoldable pub lease_client_in : List AnsweredEvent → ℕ → Option ℕ
lease_client_in [] lessee = None
lease_client_in (step ∷ past) lessee = option_or (lease_client_in past lessee) (redeemed_by (effect step) past lessee)

-- the entries are those of the history
pub record IsLedger (history : List AnsweredEvent) (owner : Option ℕ) (owner_since : ℕ) (standings : List MasterState) (leases : List Lease) (ends : List End) (magics : List Magic) (authentications : List Authentication) (roots : List ℕ) (capabilities : List Capability) : Type 0 where
  pub owners : owner ≡ owner_in history
  pub since : owner_since ≡ owner_since_in history
  pub stand : standings ≡ standings_in history
  pub are_masters : (c : ℕ) → is_master_noted standings c ≡ is_master_in history c
  pub masters : (c : ℕ) → master_noted standings c ≡ master_in history c
  pub lent : leases ≡ leases_in history
  pub ended : ends ≡ ends_in history
  pub told_magics : (master number : ℕ) → client_noted magics master number ≡ magic_in history master number
  pub named : (c : ℕ) → is_named_noted authentications c ≡ is_named_in history c
  pub authenticated : authentications ≡ authentications_in history
  pub opened_as_root : (c : ℕ) → is_root_noted roots c ≡ is_root_in history c
  pub capable : capabilities ≡ capabilities_in history
  pub universals : (c : ℕ) → is_universal_noted capabilities c ≡ is_universal_in history c

-- whether the client is current: it is a master, whose owner is the device's master
abbrev pub is_current_in : List AnsweredEvent → ℕ → Bool
is_current_in history c =
    is_master_in history c && option_map_or (λ m. is_option (top_in history m) (owner_in history)) (master_in history c)
    false

-- whether the client's master controls a mode object: a master without a lessor controls all, a lessee what its lease
-- has
abbrev pub controls_in : Topology → List AnsweredEvent → ℕ → ℕ → Bool
controls_in t history c x = is_controlled history (master_in history c) (λ m. granted t history m x)

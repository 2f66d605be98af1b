-- The masters, the master of each client, and the device's master, by the history alone (drm(7), masters; drm-uapi,
-- primary nodes, DRM master and authentication). A master is named by the number of the step that made it (own).
use Rattle.std.specs.Prelude.{ℕ, ◌==◌, Bool, true, false, List, [], ◌∷◌, Option, None, Some, unwrap_or, if◌then◌else◌}
use Rattle.std.specs.Option.{option_or}
use Rattle.drm_model.specs.Rows.{is_option}
use Rattle.drm_history.specs.History.{AnsweredEvent, next_number}
use Rattle.drm_history.specs.Effects.{Effect, OpensPrimary, OpensRender, Redeems, Closes, SetsMaster, DropsMaster, Leases, effect}

-- the step of this number answered a lease with the token
abbrev pub leased_by : Effect → ℕ → ℕ → Option ℕ → Option ℕ
leased_by (Leases c ids lessee answered) token number older = if answered == token then Some number else older
leased_by _ token number older = older

-- the lessee of a lease token: the last MODE_CREATE_LEASE that answered it
unfoldable pub lease_in : List AnsweredEvent → ℕ → Option ℕ
lease_in [] token = None
lease_in (step ∷ past) token = leased_by (effect step) token (next_number past) (lease_in past token)

-- the device's master; of each client, whether it is a master and which it has
pub record MasterState : Type 0 where
  pub owner : Option ℕ
  pub is_master : ℕ → Bool
  pub master : ℕ → Option ℕ

-- a function with another value for one client
abbrev pub put : {X : Type 0} → ℕ → X → (ℕ → X) → ℕ → X
put c x f d = if d == c then x else f d

-- the state with a client, its master, and whether it is a master
abbrev pub with_client : ℕ → Bool → Option ℕ → MasterState → MasterState
with_client c is_master master s = record s { is_master = put c is_master s.is_master; master = put c master s.master }

-- a primary client founds the device's master where there is none, and else joins it
abbrev pub with_primary : ℕ → Option ℕ → MasterState → MasterState
with_primary c None s = record (with_client c true (Some c) s) { owner = Some c }
with_primary c (Some owner) s = with_client c false (Some owner) s

-- a client that is a master keeps its own, any other gets that of this step; it is the device's where there is none
abbrev pub with_set : ℕ → ℕ → Bool → MasterState → MasterState
with_set number c true s = record s { owner = option_or s.owner (s.master c) }
with_set number c false s = record (with_client c true (Some number) s) { owner = option_or s.owner (Some number) }

-- the device's master is freed with its client
abbrev pub owner_without : Bool → Option ℕ → Option ℕ → Option ℕ
owner_without true (Some m) owner = if is_option m owner then None else owner
owner_without true None owner = owner
owner_without false master owner = owner

-- the state after an effect
abbrev pub transition : Effect → ℕ → (ℕ → Option ℕ) → MasterState → MasterState
transition (OpensPrimary root capabilities) number lease s = with_primary number s.owner s
transition OpensRender number lease s = with_client number false None s
transition (Redeems token root capabilities) number lease s = with_client number true (lease token) s
transition (Closes c) number lease s = record s { owner = owner_without (s.is_master c) (s.master c) s.owner }
transition (SetsMaster c) number lease s = with_set number c (s.is_master c) s
transition DropsMaster number lease s = record s { owner = None }
transition _ number lease s = s

-- the state after a history
unfoldable pub master_state : List AnsweredEvent → MasterState
master_state [] = record { owner = None; is_master = λ c. false; master = λ c. None }
master_state (step ∷ past) = transition (effect step) (next_number past) (lease_in past) (master_state past)

-- the device's master
abbrev pub owner_in : List AnsweredEvent → Option ℕ
owner_in history = (master_state history).owner

-- whether the client is its own master
abbrev pub is_master_in : List AnsweredEvent → ℕ → Bool
is_master_in history c = (master_state history).is_master c

-- the client's master, its own or the one that it joined
abbrev pub master_in : List AnsweredEvent → ℕ → Option ℕ
master_in history c = (master_state history).master c

-- the same, and 0 if it has none
abbrev pub caller_master_in : List AnsweredEvent → ℕ → ℕ
caller_master_in history c = unwrap_or (master_in history c) 0

-- Mastership step by step, from the history alone: how a client was opened, its first SET_MASTER, and the device's
-- master after the last step (drm(7), masters; drm-uapi, primary nodes, leases).
use Rattle.std.specs.Prelude.{ℕ, ◌==◌, Bool, true, false, ◌&&◌, ◌||◌, List, [], ◌∷◌, Option, None, Some, if◌then◌else◌}
use Rattle.std.specs.Option.{is_some, option_map_or, option_or}
use Rattle.drm_model.specs.Rows.{is_option}
use Rattle.drm_history.specs.History.{AnsweredEvent, next_number}
use Rattle.drm_history.specs.Effects.{Effect, OpensPrimary, Redeems, Closes, SetsMaster, DropsMaster, effect}
use Rattle.drm_history.specs.MasterState.{lease_in, owner_in, is_master_in, master_in}

-- whether a client was opened as a master, and the master that it had then
pub record Opened : Type 0 where
  pub is_master : Bool
  pub master : Option ℕ

-- as no master, and of none: so opens a render client
abbrev pub opened_apart : Opened
opened_apart = record { is_master = false; master = None }

-- a primary client founds its own master where the device has none, and joins the device's where it has one
abbrev pub opened_primary : Option ℕ → ℕ → Opened
opened_primary None number = record { is_master = true; master = Some number }
opened_primary (Some owner) number = record { is_master = false; master = Some owner }

-- a client that redeems a lease token is a master: the lessee of the last MODE_CREATE_LEASE before that answered the token
abbrev pub opened_by : Effect → List AnsweredEvent → Opened
opened_by (OpensPrimary root capabilities) past = opened_primary (owner_in past) (next_number past)
opened_by (Redeems token root capabilities) past = record { is_master = true; master = lease_in past token }
opened_by _ past = opened_apart

-- how the client was opened, by the step of its number
unfoldable pub opened_in : List AnsweredEvent → ℕ → Opened
opened_in [] c = opened_apart
opened_in (step ∷ past) c = if c == next_number past then opened_by (effect step) past else opened_in past c

-- the step sets the client's master
abbrev pub set_by : Effect → ℕ → ℕ → Option ℕ
set_by (SetsMaster caller) number c = if c == caller then Some number else None
set_by _ number c = None

-- the first SET_MASTER of the client that was carried out
unfoldable pub first_set : List AnsweredEvent → ℕ → Option ℕ
first_set [] c = None
first_set (step ∷ past) c = option_or (first_set past c) (set_by (effect step) (next_number past) c)

-- a client is a master where it was opened as one, or a SET_MASTER of it was carried out
abbrev pub has_become_master : List AnsweredEvent → ℕ → Bool
has_become_master history c = (opened_in history c).is_master || is_some (first_set history c)

-- its master is its own from its opening on, if it was opened as one; else that of its first SET_MASTER, or else the
-- one that it joined
abbrev pub master_since : List AnsweredEvent → ℕ → Option ℕ
master_since history c =
    if (opened_in history c).is_master then (opened_in history c).master else option_or (first_set history c)
    (opened_in history c).master

-- The device's master after the last step. An opening of a primary node and SET_MASTER keep the one that exists;
-- without one, the client's becomes the device's. DROP_MASTER leaves none, as does the closing of a client whose own
-- master is the device's.
abbrev pub owner_after : Effect → AnsweredEvent → List AnsweredEvent → Option ℕ
owner_after (OpensPrimary root capabilities) step past =
    option_or (owner_in past) (master_in (step ∷ past) (next_number past))
owner_after (SetsMaster c) step past = option_or (owner_in past) (master_in (step ∷ past) c)
owner_after DropsMaster step past = None
owner_after (Closes c) step past = if is_master_in past c && option_map_or (λ m. is_option m (owner_in past)) (master_in past c) false then None else owner_in past
owner_after _ step past = owner_in past

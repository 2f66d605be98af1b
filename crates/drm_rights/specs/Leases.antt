-- The entries of a ledger for leases and their ends, and their values by a history (drm-uapi, leases).
use Rattle.std.specs.Prelude.{ℕ, ◌<◌, ◌==◌, Bool, false, not, ◌&&◌, ◌||◌, nat_lt, List, [], ◌∷◌, ◌++◌, Option, None, Some, find, reverse, option_and_then, option_map, option_to_list, if◌then◌else◌}
use Rattle.std.specs.Option.{is_some, option_map_or, option_or}
use Rattle.drm_index_array.specs.Numbers.{is_among}
use Rattle.drm_index_array.specs.Chains.{is_under}
use Rattle.drm_index_array.specs.Orders.{InOrder}
use Rattle.drm_modes.specs.Topology.{Topology}
use Rattle.drm_history.specs.History.{AnsweredEvent, next_number}
use Rattle.drm_history.specs.Effects as told
use Rattle.drm_history.specs.Effects.{effect}
use Rattle.drm_history.specs.MasterState.{master_in, caller_master_in}
use Rattle.drm_history.specs.Lessees.{top_in, lessor_in, ended_by, ends, is_plane_of, is_lent, granted}
use Rattle.drm_history.specs.Shown.{is_universal_in}
use Rattle.drm_rights.specs.declared.notes.Lease.{Lease}
use Rattle.drm_rights.specs.declared.notes.End.{End}

-- ---- look-ups in entries

-- each is of a later step than those before it
abbrev pub LeasesRise : List Lease → Type 0
LeasesRise notes = InOrder (λ (x y : Lease). x.master < y.master) notes

-- each is of a later step than those before it
abbrev pub EndsRise : List End → Type 0
EndsRise notes = InOrder (λ (x y : End). x.step < y.step) notes

-- the lease of a lessee, which is named by the step that made it
abbrev pub lease_at : List Lease → ℕ → Option Lease
lease_at notes m = find (λ (l : Lease). m == l.master) (reverse notes)

-- the last lease with this token
abbrev pub lease_of_token : List Lease → ℕ → Option Lease
lease_of_token notes token = find (λ (l : Lease). l.token == token) (reverse notes)

-- the last lease with this id under this owner
abbrev pub lease_of_id : List Lease → ℕ → ℕ → Option Lease
lease_of_id notes owner id = find (λ (l : Lease). (l.id == id) && (l.owner == owner)) (reverse notes)

-- a lessor, if it is older than the master
abbrev pub if_older : ℕ → Option ℕ → Option ℕ
if_older m None = None
if_older m (Some lessor) = if nat_lt lessor m then Some lessor else None

-- the lessor of a master, which is older
abbrev pub lessor_noted : List Lease → ℕ → Option ℕ
lessor_noted notes m = option_and_then (λ (l : Lease). if_older m l.lessor) (lease_at notes m)

-- the lessee of a lease
abbrev pub master_of_lease : Option Lease → Option ℕ
master_of_lease found = option_map (λ (l : Lease). l.master) found

-- whether a master was created before an end, and is the one that ended or below it
abbrev pub is_ended_by : List Lease → ℕ → End → Bool
is_ended_by notes m e = nat_lt m e.step && is_under (lessor_noted notes) e.master m

-- ---- the entries of a history

-- the lease that a step creates
abbrev pub new_lease : told.Effect → List AnsweredEvent → Option Lease
new_lease (told.Leases c ids lessee token) past =
    Some
    (record { master = next_number past; client = c; lessor = master_in past c; owner = top_in past (caller_master_in past c); id = lessee; token = token; universal = is_universal_in past c })
new_lease _ past = None

-- all leases, the oldest first
unfoldable pub leases_in : List AnsweredEvent → List Lease
leases_in [] = []
leases_in (step ∷ past) = leases_in past ++ option_to_list (new_lease (effect step) past)

-- the end of a master, if a step ends one
abbrev pub end_with : List AnsweredEvent → Option ℕ → Option End
end_with past master = option_map (λ m. record { step = next_number past; master = m }) master

-- the masters that steps ended, the oldest step first
unfoldable pub ends_in : List AnsweredEvent → List End
ends_in [] = []
ends_in (step ∷ past) = ends_in past ++ option_to_list (end_with past (ended_by (effect step) past))

-- ---- values by a history

-- the first step that ended the master
unfoldable pub ended_at : List AnsweredEvent → ℕ → Option ℕ
ended_at [] m = None
ended_at (step ∷ past) m = option_or (ended_at past m) (if ends step past m then Some (next_number past) else None)

-- the mode objects that a CREATE_LEASE lists
abbrev pub listed_by : told.Effect → List ℕ
listed_by (told.Leases c ids lessee token) = ids
listed_by _ = []

-- the mode objects that the step of this number listed for a lease
unfoldable pub listed_in : List AnsweredEvent → ℕ → List ℕ
listed_in [] m = []
listed_in (step ∷ past) m = if m == next_number past then listed_by (effect step) else listed_in past m

-- whether the step of this number lent the mode object
unfoldable pub lent_in : Topology → List AnsweredEvent → ℕ → ℕ → Bool
lent_in t [] m x = false
lent_in t (step ∷ past) m x =
    if m == next_number past then is_lent t (effect step) past x (λ n. granted t past n x) else lent_in t past m x

-- whether a step before this one ended the master
abbrev pub is_ended_before : List AnsweredEvent → ℕ → ℕ → Bool
is_ended_before history m step = option_map_or (λ ended. nat_lt ended step) (ended_at history m) false

-- whether the lessor of a lease, created by the step of this number, had the mode object to lend
abbrev pub had_to_lend : Topology → List AnsweredEvent → ℕ → ℕ → Option ℕ → Bool
had_to_lend t history step x None = false
had_to_lend t history step x (Some m) =
    not (is_some (lessor_in history m)) || (lent_in t history m x && not (is_ended_before history m step))

-- whether a lease of these also has the mode object, with universal planes on or off
abbrev pub comes_along : Topology → Bool → List ℕ → ℕ → Bool
comes_along t universal ids x = not universal && is_plane_of t ids x

-- what a lease lends, by its entry
abbrev pub lent_by : Topology → List AnsweredEvent → ℕ → ℕ → Option Lease → Bool
lent_by t history m x None = false
lent_by t history m x (Some l) =
    is_among (listed_in history m) x ||
    (comes_along t l.universal (listed_in history m) x && had_to_lend t history m x l.lessor)

-- Lessors and lessees, what was lent, and what ended it, by the history alone (drm-uapi, leases; the planes that are
-- added for a CRTC are own). Chains of lessors may be of any length.
use Rattle.std.specs.Prelude.{ℕ, ◌==◌, Bool, false, not, ◌&&◌, ◌||◌, List, [], ◌∷◌, Option, None, Some, if◌then◌else◌}
use Rattle.std.specs.Option.{is_some, option_map_or}
use Rattle.drm_index_array.specs.Numbers.{is_among}
use Rattle.drm_index_array.specs.Chains.{top_of, is_under}
use Rattle.drm_modes.specs.Topology.{Topology, crtc_of_plane}
use Rattle.drm_history.specs.History.{AnsweredEvent, next_number}
use Rattle.drm_history.specs.Effects.{Effect, Leases, Revokes, Closes, effect}
use Rattle.drm_history.specs.MasterState.{MasterState, master_state, is_master_in, master_in, caller_master_in}
use Rattle.drm_history.specs.Shown.{is_universal_in}

-- the lessor of the lessee that a step creates
abbrev pub lessor_by : Effect → MasterState → Option ℕ
lessor_by (Leases c ids lessee token) s = s.master c
lessor_by _ s = None

-- the lessor of a master: the master of the caller of its step, where that is MODE_CREATE_LEASE
unfoldable pub lessor_in : List AnsweredEvent → ℕ → Option ℕ
lessor_in [] m = None
lessor_in (step ∷ past) m =
    if m == next_number past then lessor_by (effect step) (master_state past) else lessor_in past m

-- the top of a master's chain of lessors
abbrev pub top_in : List AnsweredEvent → ℕ → ℕ
top_in history m = top_of (lessor_in history) m

-- whether m is the master named top, or below it
abbrev pub is_under_in : List AnsweredEvent → ℕ → ℕ → Bool
is_under_in history top m = is_under (lessor_in history) top m

-- the lessee with an id under an owner, after a step
abbrev pub lessee_by : Effect → List AnsweredEvent → ℕ → ℕ → Option ℕ → Option ℕ
lessee_by (Leases c ids lessee token) past owner id older = if (lessee == id) && (top_in past (caller_master_in past c) == owner) then Some (next_number past) else older
lessee_by _ past owner id older = older

-- the lessee of an id: the last MODE_CREATE_LEASE that answered it to a client with this owner
unfoldable pub lessee_in : List AnsweredEvent → ℕ → ℕ → Option ℕ
lessee_in [] owner id = None
lessee_in (step ∷ past) owner id = lessee_by (effect step) past owner id (lessee_in past owner id)

-- the master that a step ends, and all below it: the lessee of MODE_REVOKE_LEASE, and the master of a closed client that is one
abbrev pub ended_by : Effect → List AnsweredEvent → Option ℕ
ended_by (Revokes c lessee) past = lessee_in past (top_in past (caller_master_in past c)) lessee
ended_by (Closes c) past = if is_master_in past c then master_in past c else None
ended_by _ past = None

-- whether a master is under the top, if there is one
abbrev pub is_under_any : List AnsweredEvent → Option ℕ → ℕ → Bool
is_under_any past None m = false
is_under_any past (Some top) m = is_under_in past top m

-- whether the step ends the master
unfoldable pub ends : AnsweredEvent → List AnsweredEvent → ℕ → Bool
ends step past m = is_under_any past (ended_by (effect step) past) m

-- whether some step ended it
unfoldable pub has_ended : List AnsweredEvent → ℕ → Bool
has_ended [] m = false
has_ended (step ∷ past) m = ends step past m || has_ended past m

-- whether a mode object is a primary or a cursor plane of a CRTC in a list
abbrev pub is_plane_of : Topology → List ℕ → ℕ → Bool
is_plane_of t ids x = option_map_or (is_among ids) (crtc_of_plane t x) false

-- whether a master controls what its lease has or not: where it has no lessor, it controls all
abbrev pub is_controlled : List AnsweredEvent → Option ℕ → (ℕ → Bool) → Bool
is_controlled past (Some m) has = not (is_some (lessor_in past m)) || has m
is_controlled past None has = false

-- What a step lends: the ids that it lists. If its client has universal planes off, also the primary and the cursor
-- plane of each listed CRTC that the client's master controls. So does a lease with the plane.
abbrev pub is_lent : Topology → Effect → List AnsweredEvent → ℕ → (ℕ → Bool) → Bool
is_lent t (Leases c ids lessee token) past x has =
    is_among ids x || (not (is_universal_in past c) && is_plane_of t ids x && is_controlled past (master_in past c) has)
is_lent t _ past x has = false

-- whether a lease has the mode object: its step is MODE_CREATE_LEASE that lends it, and no later one ended it
unfoldable pub granted : Topology → List AnsweredEvent → ℕ → ℕ → Bool
granted t [] m x = false
granted t (step ∷ past) m x =
    if m == next_number past then is_lent t (effect step) past x (λ n. granted t past n x) else not (ends step past m)
    && granted t past m x

-- The rows of an explanation (own).
use Rattle.std.specs.Prelude.{◌≡◌, ℕ, ◌<◌, ◌==◌, Bool, true, false, not, ◌+◌, ◌&&◌, ◌||◌, nat_le, length, List, [], ◌∷◌, ◌++◌, filter, option_to_list, Option, None, Some, IfSome, MatchOption, if◌then◌else◌}
use Rattle.std.specs.List.{AllByRecursion, list_any}
use Rattle.std.specs.List.Sorted.{IsNonDecreasing}
use Rattle.std.specs.Option.{is_some, option_map}
use Rattle.drm_table.specs.declared.answers.Answer.{Answer}
use Rattle.drm_table.specs.declared.answers.Answer.TheVariants.{Opened}
use Rattle.drm_table.specs.declared.events.Event.{Event}
use Rattle.drm_table.specs.declared.events.Event.TheVariants.{Open}
use Rattle.drm_table.specs.declared.events.Opening.{Opening}
use Rattle.drm_table.specs.declared.events.Opening.TheVariants as openings
use Rattle.drm_model.specs.Rows.{is_option}
use Rattle.drm_modes.specs.Topology.{Topology, crtc_ids, plane_ids, is_primary_or_cursor}
use Rattle.drm_history.specs.History.{AnsweredEvent}
use Rattle.drm_history.specs.Holds.{Has}
use Rattle.drm_index_array.specs.Numbers.{is_among}
use Rattle.drm_index_array.specs.Orders.{InOrder}
use Rattle.drm_history.specs.Lessees.{top_in, lessor_in, has_ended}
use Rattle.drm_history.specs.Closings.{closes, has_closed}
use Rattle.drm_history.specs.Effects.{effect}
use Rattle.drm_history.specs.Magics.{is_root_in, known}
use Rattle.drm_history.specs.MasterState.{is_master_in, master_in}
use Rattle.drm_history.specs.Shown.{is_universal_in}
use Rattle.drm_trails.specs.Chains.{IsOfDevice}
use Rattle.drm_rights.specs.Leases.{ended_at, lent_in}
use Rattle.drm_rights.specs.Ledgers.{authentication_of, authentications_in, capabilities_in, capability_of, is_current_in, controls_in, lease_client_in, master_state_of, owner_since_in, standings_in}
use Rattle.drm_trails.specs.Passing.{first_step_after}
use Rattle.drm_rights.specs.declared.notes.Authentication.{Authentication}
use Rattle.drm_rights.specs.declared.notes.Capability.{Capability}
use Rattle.drm_rights.specs.declared.notes.Lease.{Lease}
use Rattle.drm_rights.specs.declared.notes.MasterState.{MasterState}
use Rattle.drm_explanations.specs.Steps.{TellsStep}
use Rattle.drm_explanations.specs.declared.rows.At.{At}
use Rattle.drm_explanations.specs.declared.rows.Authenticated.{Authenticated}
use Rattle.drm_explanations.specs.declared.rows.AuthenticatedBy.{AuthenticatedBy}
use Rattle.drm_explanations.specs.declared.rows.AuthenticatedBy.TheVariants.{Root, Master, AuthMagic}
use Rattle.drm_explanations.specs.declared.rows.ClientRow.{ClientRow}
use Rattle.drm_explanations.specs.declared.rows.HandleRow.{HandleRow}
use Rattle.drm_explanations.specs.declared.rows.LeaseRow.{LeaseRow}
use Rattle.drm_explanations.specs.declared.rows.Node.{Node}
use Rattle.drm_explanations.specs.declared.rows.Node.TheVariants.{Primary, Render, Lease as Leased}
use Rattle.drm_explanations.specs.declared.rows.StandingRow.{StandingRow}
use Rattle.drm_explanations.specs.declared.rows.UniversalRow.{UniversalRow}

-- ---- the device's master

-- the step since which the device's master has been the same, if it ever changed
abbrev pub owner_since : List AnsweredEvent → Option ℕ
owner_since history = if owner_since_in history == 0 then None else Some (owner_since_in history)

-- the step since which it is, with its client and its call
pub record TellsSince (history : List AnsweredEvent) (since : Option At) : Type 0 where
  pub step : option_map (λ (told : At). told.step) since ≡ owner_since history
  pub at : IfSome since (TellsStep history)

-- ---- leases of a client

-- whether the client created or redeemed a lease
abbrev pub is_lease_of : ℕ → LeaseRow → Bool
is_lease_of c row = (row.leased.client == c) || is_option c row.redeemed_by

-- ---- the rights of a client

-- whether a client may set a CRTC or a plane: it is current and controls it, and with universal planes off it is no
-- primary or cursor plane
abbrev pub may_set : Topology → List AnsweredEvent → ℕ → ℕ → Bool
may_set t history c x =
    is_current_in history c && controls_in t history c x &&
    (is_universal_in history c || not (is_primary_or_cursor t x))

-- the CRTCs and planes that it may set, in rising order
abbrev pub settable : Topology → List AnsweredEvent → ℕ → List ℕ
settable t history c = filter (may_set t history c) (crtc_ids t ++ plane_ids t)

-- the reason a client is authenticated: its opening as root, else a master, else an AUTH_MAGIC
abbrev pub authenticated_by : List AnsweredEvent → ℕ → AuthenticatedBy
authenticated_by history c =
    if is_root_in history c then Root else (if is_master_in history c then Master else AuthMagic)

-- the step since which a client has its master state
abbrev pub standing_since : List AnsweredEvent → ℕ → Option ℕ
standing_since history c = option_map (λ (state : MasterState). state.step) (master_state_of (standings_in history) c)

-- the step since which its universal planes are on or off
abbrev pub universal_since : List AnsweredEvent → ℕ → Option ℕ
universal_since history c = option_map (λ (k : Capability). k.step) (capability_of (capabilities_in history) c)

-- the step since which it is: its opening, the step that made it a master, or the first AUTH_MAGIC that named its magic
abbrev pub authenticated_since : List AnsweredEvent → ℕ → AuthenticatedBy → Option ℕ
authenticated_since history c Root = Some c
authenticated_since history c Master = standing_since history c
authenticated_since history c AuthMagic =
    option_map (λ (named : Authentication). named.step) (authentication_of (authentications_in history) c)

-- the magic that this AUTH_MAGIC named
abbrev pub named_magic : List AnsweredEvent → ℕ → AuthenticatedBy → Option ℕ
named_magic history c AuthMagic =
    option_map (λ (named : Authentication). named.magic) (authentication_of (authentications_in history) c)
named_magic history c _ = None

-- the reason a client is authenticated, by the history
pub record TellsAuthenticated (history : List AnsweredEvent) (c : ℕ) (row : Authenticated) : Type 0 where
  pub is_known : known history c ≡ true
  pub by : row.by ≡ authenticated_by history c
  pub since : Some row.since.step ≡ authenticated_since history c row.by
  pub magic : row.magic ≡ named_magic history c row.by
  pub at : TellsStep history row.since

-- the universal planes of a client, by the history
pub record TellsUniversal (history : List AnsweredEvent) (c : ℕ) (row : UniversalRow) : Type 0 where
  pub on : row.on ≡ is_universal_in history c
  pub since : Some row.since.step ≡ universal_since history c
  pub at : TellsStep history row.since

-- the master state of a client, by the history
pub record TellsStanding (history : List AnsweredEvent) (c : ℕ) (row : StandingRow) : Type 0 where
  pub is_master : row.is_master ≡ is_master_in history c
  pub master : row.master ≡ master_in history c
  pub owner : row.owner ≡ option_map (top_in history) (master_in history c)
  pub current : row.current ≡ is_current_in history c
  pub since : Some row.since.step ≡ standing_since history c
  pub at : TellsStep history row.since

-- whether there is a row of a handle, with its object
abbrev pub is_shown : List HandleRow → ℕ → ℕ → Bool
is_shown rows h o = list_any (λ (row : HandleRow). (row.handle == h) && (row.object == o)) rows

-- The rows of a client's handles, in rising order. Each is of a handle that the client has, with its object. If the
-- history is that of a device, each handle of the client has a row.
pub record TellsHolds (history : List AnsweredEvent) (c : ℕ) (rows : List HandleRow) : Type 0 where
  pub rising : InOrder (λ (x y : HandleRow). x.handle < y.handle) rows
  pub had : AllByRecursion (λ (row : HandleRow). Has history c row.handle row.object) rows
  pub each : IsOfDevice history → (h o : ℕ) → Has history c h o → is_shown rows h o ≡ true

-- The row of an open client, by the history. It has an authentication exactly if the client is authenticated. It has universal
-- planes and a standing exactly if a step has set them. It has what the client may set, and the handles that it holds.
pub record TellsOpen (t : Topology) (history : List AnsweredEvent) (row : ClientRow) : Type 0 where
  pub is_authenticated : is_some row.authenticated ≡ known history row.client
  pub has_universal_planes : is_some row.universal_planes ≡ is_some (capability_of (capabilities_in history) row.client)
  pub has_standing : is_some row.standing ≡ is_some (master_state_of (standings_in history) row.client)
  pub authenticated : IfSome row.authenticated (TellsAuthenticated history row.client)
  pub universal_planes : IfSome row.universal_planes (TellsUniversal history row.client)
  pub standing : IfSome row.standing (TellsStanding history row.client)
  pub may_set : row.may_set.items ≡ settable t history row.client
  pub holds : TellsHolds history row.client row.holds.items

-- only how the client was opened
pub record TellsNothing (row : ClientRow) : Type 0 where
  pub authenticated : row.authenticated ≡ None
  pub universal_planes : row.universal_planes ≡ None
  pub standing : row.standing ≡ None
  pub may_set : row.may_set.items ≡ []
  pub holds : row.holds.items ≡ []

-- the step that closed a client: the first after its opening that did
abbrev pub closed_step : List AnsweredEvent → ℕ → Option ℕ
closed_step history c = first_step_after c (λ step. closes (effect step) c) history

-- ---- the clients that have rows

-- the node of an opening, and whether it is one as root; a render client is never root
abbrev pub node_of : Opening → Node × Bool
node_of (openings.Primary root universal) = (Primary, root)
node_of openings.Render = (Render, false)
node_of (openings.Lease token root universal) = (Leased, root)

-- the client that an event opened, by its answer, with its node and whether it is root
abbrev pub opens_by : Event → Answer → Option (ℕ × (Node × Bool))
opens_by (Open opening) (Opened client) = Some (client, node_of opening)
opens_by event answer = None

-- the same of an accepted opening
abbrev pub opening_by : AnsweredEvent → Option (ℕ × (Node × Bool))
opening_by step = opens_by step.event step.answer

-- the client of an accepted opening
abbrev pub opens : AnsweredEvent → Option ℕ
opens step = option_map (λ (o : ℕ × (Node × Bool)). o.0) (opening_by step)

-- whether a client has a row: if one is named, only that one has
abbrev pub has_row : Option ℕ → ℕ → Bool
has_row None c = true
has_row (Some named) c = named == c

-- the openings of the clients that have rows, in their order
unfoldable pub openings_in : Option ℕ → List AnsweredEvent → List (ℕ × (Node × Bool))
openings_in only [] = []
openings_in only (step ∷ past) =
    openings_in only past ++ filter (λ (o : ℕ × (Node × Bool)). has_row only o.0) (option_to_list (opening_by step))

-- the opening of a row's client
abbrev pub opening_of_row : ClientRow → ℕ × (Node × Bool)
opening_of_row row = (row.client, (row.node, row.root))

-- the letter of the first label that names a client, of labels whose first has this letter
abbrev pub letter_of : ℕ → List ℕ → ℕ → Option ℕ
letter_of letter [] c = None
letter_of letter (named ∷ labels) c = if named == c then Some letter else letter_of (letter + 1) labels c

-- the label that names a client, from `a` on
abbrev pub label_of : List ℕ → ℕ → Option ℕ
label_of labels c = letter_of 97 labels c

-- the row of a closed client has the step that closed it, and no rights or handles
pub record TellsClient (t : Topology) (labels : List ℕ) (history : List AnsweredEvent) (row : ClientRow) : Type 0 where
  pub label : row.label ≡ label_of labels row.client
  pub closed : row.closed ≡ closed_step history row.client
  pub rest : MatchOption row.closed (TellsOpen t history row) (λ step. (has_closed history row.client ≡ true) × TellsNothing row)

-- ---- leases

-- whether the history has the step of a number
abbrev pub is_step : List AnsweredEvent → ℕ → Bool
is_step history n = nat_le 1 n && nat_le n (length history)

-- the lessee of a lease, named by the step that created it, its id, and the token
abbrev pub names_of : Lease → ℕ × ℕ × ℕ
names_of lease = (lease.master, lease.id, lease.token)

-- the same of a row
abbrev pub names_of_row : LeaseRow → ℕ × ℕ × ℕ
names_of_row row = (row.master, row.lessee_id, row.token)

-- The row of a lease, by the history. It has the step that created it, the lessor, and what its step lent, in rising
-- order. It also has the client that redeemed it, and the step that ended it if it has ended.
pub record TellsLease (t : Topology) (history : List AnsweredEvent) (row : LeaseRow) : Type 0 where
  pub lessor : row.lessor ≡ lessor_in history row.master
  pub mode_objects : (x : ℕ) → is_among row.mode_objects.items x ≡ lent_in t history row.master x
  pub rising : IsNonDecreasing row.mode_objects.items
  pub redeemed_by : row.redeemed_by ≡ lease_client_in history row.master
  pub ended : IfSome row.ended (λ _. has_ended history row.master ≡ true)
  pub leased : row.leased.step ≡ row.master
  pub leased_at : TellsStep history row.leased
  pub end_at : IfSome row.ended (TellsStep history)
  pub ended_by : option_map (λ (told : At). told.step) row.ended ≡ ended_at history row.master

-- The kinds of facts that the denials by each rule always have (own).
use Rattle.std.specs.Prelude.{◌≡◌, ℕ, ◌*◌, ◌==◌, nat_le, Bool, true, false, not, ◌&&◌, ◌||◌, if◌then◌else◌, List, [], ◌∷◌, ◌++◌, Option, None, Some, option_and_then}
use Rattle.std.specs.List.{AllByRecursion, list_all, list_any}
use Rattle.std.specs.Option.{is_some, option_map_or}
use Rattle.drm_table.specs.declared.answers.Answer.{Answer}
use Rattle.drm_table.specs.declared.answers.Answer.TheVariants as answers
use Rattle.drm_table.specs.declared.calls.Call.{Call}
use Rattle.drm_table.specs.declared.calls.Call.TheVariants as calls
use Rattle.drm_table.specs.declared.events.Event.{Event}
use Rattle.drm_table.specs.declared.events.Event.TheVariants as events
use Rattle.drm_table.specs.declared.events.Opening.{Opening}
use Rattle.drm_table.specs.declared.events.Opening.TheVariants as openings
use Rattle.drm_table.specs.declared.rules.Rule.{Rule}
use Rattle.drm_table.specs.declared.rules.Rule.TheVariants as rules
use Rattle.drm_modes.specs.LeaseRules.{is_lease, sees, stands_once}
use Rattle.drm_modes.specs.Topology.{Topology, encoder_of, is_of_kind, is_route, kind_of, planes_of}
use Rattle.drm_modes.specs.declared.kinds.Kind.{Kind}
use Rattle.drm_modes.specs.declared.kinds.Kind.TheVariants.{Connector, Crtc, Encoder, Plane}
use Rattle.drm_model.specs.Buffers.{bytes_per_pixel, is_buffer_size, is_dumb_shape}
use Rattle.drm_model.specs.Rows.{is_option}
use Rattle.drm_history.specs.History.{AnsweredEvent, next_number}
use Rattle.drm_history.specs.Holds.{Has as HasHandle}
use Rattle.drm_history.specs.Lessees.{granted}
use Rattle.drm_history.specs.MasterState.{master_in}
use Rattle.drm_history.specs.Shown.{is_universal_in}
use Rattle.drm_rights.specs.Leases.{leases_in}
use Rattle.drm_rights.specs.Ledgers.{controls_in}
use Rattle.drm_rights.specs.declared.notes.Lease.{Lease}
use Rattle.drm_trails.specs.Chains.{IsOfDevice}
use Rattle.drm_trails.specs.Passing.{last_step}
use Rattle.drm_explanations.specs.Rows.{closed_step}
use Rattle.drm_explanations.specs.declared.lines.Subject.{Subject}
use Rattle.drm_explanations.specs.declared.lines.Subject.TheVariants as subjects
use Rattle.drm_refusals.specs.Leases.{lease_meant}
use Rattle.drm_refusals.specs.Searches.{opens}
use Rattle.drm_refusals.specs.declared.facts.Fact.{Fact}
use Rattle.drm_refusals.specs.declared.facts.Fact.TheVariants as facts
use Rattle.drm_refusals.specs.declared.facts.HandleFact.TheVariants as handles
use Rattle.drm_refusals.specs.declared.facts.LeaseFact.TheVariants as leases
use Rattle.drm_refusals.specs.declared.facts.LimitFact.TheVariants as limits
use Rattle.drm_refusals.specs.declared.facts.ModeObjectFact.TheVariants as objects
use Rattle.drm_refusals.specs.declared.facts.RequestFact.TheVariants as requests

-- some fact is of a kind
abbrev pub Shows : List Fact → (Fact → Bool) → Type 0
Shows found kind = list_any kind found ≡ true

-- ---- kinds of facts

-- what is wrong with the number or the fields of a call
abbrev pub is_number : Fact → Bool
is_number (facts.Request (requests.OtherFields number kind)) = true
is_number (facts.Request (requests.NoCall number)) = true
is_number _ = false

-- why the caller is not open
abbrev pub is_absence : Fact → Bool
is_absence (facts.Client fact) = true
is_absence (facts.Request requests.NoCaller) = true
is_absence _ = false

-- the handles of the caller
abbrev pub is_held : Fact → Bool
is_held (facts.Handle (handles.Holds c held)) = true
is_held _ = false

-- who published something, and what withdrew it
abbrev pub is_published : Fact → Bool
is_published (facts.Published fact) = true
is_published _ = false

-- whose a magic is
abbrev pub is_magic : Fact → Bool
is_magic (facts.Magic fact) = true
is_magic _ = false

-- that no lessee has an id, or its lease
abbrev pub is_lessee : Fact → Bool
is_lessee (facts.Lease (leases.NoLessee c lessee)) = true
is_lessee (facts.Told (subjects.Lease master)) = true
is_lessee _ = false

-- whether a lease has the token
abbrev pub is_token : Fact → Bool
is_token (facts.Lease (leases.TokenUsed token)) = true
is_token (facts.Lease (leases.TokenUnknown token)) = true
is_token _ = false

-- that no CRTC of a plane is the named one
abbrev pub is_plane_route : Fact → Bool
is_plane_route (facts.Request (requests.PlaneRoute crtc plane)) = true
is_plane_route _ = false

-- the capability
abbrev pub is_capability : Fact → Bool
is_capability (facts.Request (requests.NoCapability capability)) = true
is_capability (facts.Request (requests.NoValue capability value)) = true
is_capability _ = false

-- what is wrong with a mode object
abbrev pub is_mode_object : Fact → Bool
is_mode_object (facts.ModeObject fact) = true
is_mode_object _ = false

-- the same, or what became of the framebuffer with an id
abbrev pub is_id : Fact → Bool
is_id (facts.ModeObject fact) = true
is_id (facts.Published fact) = true
is_id _ = false

-- that an id is in a list twice
abbrev pub is_repetition : Fact → Bool
is_repetition (facts.Request (requests.Repeated id)) = true
is_repetition _ = false

-- what is missing in a lease
abbrev pub is_lack : Fact → Bool
is_lack (facts.Request requests.LacksCrtc) = true
is_lack (facts.Request requests.LacksConnector) = true
is_lack (facts.Lease (leases.LacksPlane c)) = true
is_lack _ = false

-- that a lease has a mode object
abbrev pub is_leased_out : Fact → Bool
is_leased_out (facts.Lease (leases.LeasedOut id lease)) = true
is_leased_out _ = false

-- that a number is out of range, or too small for the others
abbrev pub is_size : Fact → Bool
is_size (facts.Size fact) = true
is_size _ = false

-- that a request has half a route, or the encoder that the connector has
abbrev pub is_connector_route : Fact → Bool
is_connector_route (facts.Request (requests.HalfRoute framebuffer connector)) = true
is_connector_route (facts.ModeObject (objects.EncoderOf crtc connector encoder)) = true
is_connector_route _ = false

-- a limit
abbrev pub is_limit : Fact → Bool
is_limit (facts.Limit fact) = true
is_limit _ = false

-- the limit of clients
abbrev pub is_client_limit : Fact → Bool
is_client_limit (facts.Limit (limits.Clients count most)) = true
is_client_limit _ = false

-- ---- lines of the explanation

-- how the caller was opened
abbrev pub is_client_line : Fact → Bool
is_client_line (facts.Told (subjects.Client c)) = true
is_client_line _ = false

-- why it is not authenticated
abbrev pub is_authentication_line : Fact → Bool
is_authentication_line (facts.Told (subjects.Authentication c)) = true
is_authentication_line _ = false

-- why it is not current
abbrev pub is_current_line : Fact → Bool
is_current_line (facts.Told (subjects.Current c)) = true
is_current_line _ = false

-- whose master it has
abbrev pub is_master_line : Fact → Bool
is_master_line (facts.Told (subjects.Master c)) = true
is_master_line _ = false

-- the device's master
abbrev pub is_device_line : Fact → Bool
is_device_line (facts.Told subjects.Device) = true
is_device_line _ = false

-- ---- the table

-- the kinds of facts that a denial of a call by a rule always has
abbrev pub kinds : Rule → Call → List (Fact → Bool)
kinds rules.Unknown call = is_number ∷ []
kinds rules.Layout call = is_number ∷ []
kinds rules.RootOnly call = is_client_line ∷ []
kinds rules.Auth call = is_authentication_line ∷ []
kinds rules.Master call = is_current_line ∷ is_master_line ∷ is_device_line ∷ []
kinds rules.RenderAllow call = is_client_line ∷ []
kinds rules.NoHandle call = is_held ∷ []
kinds rules.NoHandleToClose call = is_held ∷ []
kinds rules.NoName (calls.GemOpen name) = is_published ∷ []
kinds rules.NoToken (calls.PrimeFdToHandle token) = is_published ∷ []
kinds rules.NoToken (calls.TokenClose token) = is_published ∷ []
kinds rules.NoMagic (calls.AuthMagic magic) = is_magic ∷ []
kinds rules.MasterPerm call = is_client_line ∷ is_master_line ∷ []
kinds rules.MasterBusy call = is_current_line ∷ is_device_line ∷ []
kinds rules.NotCurrent call = is_current_line ∷ is_master_line ∷ is_device_line ∷ []
kinds rules.IsLessee call = is_master_line ∷ []
kinds rules.SubLease call = is_master_line ∷ []
kinds rules.NoLessee (calls.RevokeLease lessee) = is_lessee ∷ []
kinds rules.NoFb (calls.SetCrtc crtc framebuffer connector) = is_published ∷ []
kinds rules.NoFb (calls.SetPlane plane crtc framebuffer) = is_published ∷ []
kinds rules.NoFb (calls.GetFb framebuffer) = is_published ∷ []
kinds rules.NoFb (calls.RmFb framebuffer) = is_published ∷ []
kinds rules.BadRoute (calls.SetPlane plane crtc framebuffer) = is_plane_route ∷ []
kinds rules.BadCap (calls.GetCap cap) = is_capability ∷ []
kinds rules.BadCap (calls.SetClientCap cap value) = is_capability ∷ []
kinds rules.Full call = is_limit ∷ []
kinds rule call = []

-- the same of an opening
abbrev pub opening_kinds : Rule → Opening → List (Fact → Bool)
opening_kinds rules.NoLeaseToken (openings.Lease token root universal) = is_token ∷ []
opening_kinds rules.Full opening = is_client_limit ∷ []
opening_kinds rule opening = []

-- whether a client is open: a step opened it, and none closed it since
abbrev pub is_open : List AnsweredEvent → ℕ → Bool
is_open history c = is_some (last_step (opens c) history) && not (is_some (closed_step history c))

-- ---- facts of denials that the history decides

-- whether a mode object is of the kind that a call requires, or of any
abbrev pub is_wanted : Topology → Option Kind → ℕ → Bool
is_wanted t (Some kind) x = is_of_kind t kind x
is_wanted t None x = is_some (kind_of t x)

-- whether a client sees a mode object as a call requires, by the history
abbrev pub sees_in : Topology → List AnsweredEvent → ℕ → Option Kind → ℕ → Bool
sees_in t history c wanted x =
    is_wanted t wanted x && sees t (controls_in t history c x) (is_universal_in history c) x

-- whether it sees the mode objects that a call names
abbrev pub sees_named : Topology → List AnsweredEvent → ℕ → Call → Bool
sees_named t history c (calls.GetCrtc crtc) = sees_in t history c (Some Crtc) crtc
sees_named t history c (calls.GetEncoder encoder) = sees_in t history c (Some Encoder) encoder
sees_named t history c (calls.GetConnector connector) = sees_in t history c (Some Connector) connector
sees_named t history c (calls.GetPlane plane) = sees_in t history c (Some Plane) plane
sees_named t history c (calls.SetCrtc crtc framebuffer connector) =
    sees_in t history c (Some Crtc) crtc && ((connector == 0) || sees_in t history c (Some Connector) connector)
sees_named t history c (calls.SetPlane plane crtc framebuffer) =
    sees_in t history c (Some Plane) plane && ((framebuffer == 0) || sees_in t history c (Some Crtc) crtc)
sees_named t history c call = true

-- whether the objects of a kind can be leased
abbrev pub is_leasable : Option Kind → Bool
is_leasable (Some Encoder) = false
is_leasable (Some kind) = true
is_leasable None = false

-- the planes that the CRTCs among these ids bring, with universal planes off
abbrev pub brought : Topology → List AnsweredEvent → ℕ → List ℕ → List ℕ
brought t history c ids = if is_universal_in history c then [] else planes_of t ids

-- all that is leased with these ids
abbrev pub leased : Topology → List AnsweredEvent → ℕ → List ℕ → List ℕ
leased t history c ids = ids ++ brought t history c ids

-- whether a lease of this lessor has none of these mode objects
abbrev pub leaves : Topology → List AnsweredEvent → ℕ → List ℕ → Lease → Bool
leaves t history lessor ids lease =
    not (is_option lessor lease.lessor) || list_all (λ x. not (granted t history lease.master x)) ids

-- whether no direct lessee of a client's master has one of these mode objects
abbrev pub are_free : Topology → List AnsweredEvent → ℕ → List ℕ → Bool
are_free t history c ids =
    option_map_or (λ m. list_all (leaves t history m ids) (leases_in history)) (master_in history c) true

-- whether the shape of a framebuffer is in range, and its pitch fits
abbrev pub is_shape : ℕ → ℕ → ℕ → ℕ → Bool
is_shape width height pitch bpp = is_dumb_shape width height bpp && nat_le (width * bytes_per_pixel bpp) pitch

-- the answer of the step with this number
unfoldable pub answer_at : List AnsweredEvent → ℕ → Option Answer
answer_at [] n = None
answer_at (step ∷ past) n = if next_number past == n then Some step.answer else answer_at past n

-- the bytes of the buffer that is created with this answer
abbrev pub bytes_created : Answer → Option ℕ
bytes_created (answers.Buffer handle size) = Some size
bytes_created (answers.Dumb handle pitch size) = Some size
bytes_created answer = None

-- the bytes of the object that the step with this number created
abbrev pub bytes_of : List AnsweredEvent → ℕ → Option ℕ
bytes_of history object = option_and_then bytes_created (answer_at history object)

-- Of a device's history, an object that holds fewer bytes than are needed is a reason.
abbrev pub ReasonOfBuffer : List AnsweredEvent → ℕ → ℕ → ℕ → List Fact → Type 0
ReasonOfBuffer history c handle needed found =
    IsOfDevice history → (object bytes : ℕ) → HasHandle history c handle object → bytes_of history object ≡ Some bytes
    → nat_le needed bytes ≡ false → Shows found is_size

-- If by the history a call fails by a rule, some fact is of the rule's kind. `kinds` has the rules whose denials always
-- have the same facts.
abbrev pub Reasons : Topology → List AnsweredEvent → ℕ → Rule → Call → List Fact → Type 0
Reasons t history c rules.NoClient call found = is_open history c ≡ false → Shows found is_absence
Reasons t history c rules.NoModeObject (calls.CreateLease ids) found =
    list_all (sees_in t history c None) ids ≡ false → Shows found is_id
Reasons t history c rules.NoModeObject call found = sees_named t history c call ≡ false → Shows found is_mode_object
Reasons t history c rules.NotLeasable (calls.CreateLease ids) found =
    list_all (λ x. is_leasable (kind_of t x)) ids ≡ false → Shows found is_id
Reasons t history c rules.Repeated (calls.CreateLease ids) found =
    list_all (stands_once ids) ids ≡ false → Shows found is_repetition
Reasons t history c rules.LeaseShape (calls.CreateLease ids) found =
    is_lease t (is_universal_in history c) ids ≡ false → Shows found is_lack
Reasons t history c rules.LeasedOut (calls.CreateLease ids) found =
    are_free t history c (leased t history c ids) ≡ false → Shows found is_leased_out
Reasons t history c rules.NotYourLessee (calls.RevokeLease lessee) found =
    is_some (lease_meant history c lessee) ≡ true → Shows found is_lessee
Reasons t history c rules.BadSize (calls.BufCreate size) found = is_buffer_size size ≡ false → Shows found is_size
Reasons t history c rules.BadSize (calls.CreateDumb width height bpp) found =
    is_dumb_shape width height bpp ≡ false → Shows found is_size
Reasons t history c rules.BadSize (calls.AddFb width height pitch bpp handle) found =
    (is_shape width height pitch bpp ≡ false → Shows found is_size) ×
    ReasonOfBuffer history c handle (pitch * height) found
Reasons t history c rules.BadRoute (calls.SetCrtc crtc framebuffer connector) found =
    is_route t crtc framebuffer connector ≡ false → ((connector == 0) || is_some (encoder_of t connector)) ≡ true
    → Shows found is_connector_route
Reasons t history c rule call found = Unit {0}

-- the facts of a denied event are of the kinds of its rule
abbrev pub HasKinds : Topology → List AnsweredEvent → Event → Rule → List Fact → Type 0
HasKinds t history (events.Open opening) rule found = AllByRecursion (Shows found) (opening_kinds rule opening)
HasKinds t history (events.Ask c call) rule found =
    AllByRecursion (Shows found) (kinds rule call) × Reasons t history c rule call found
HasKinds t history (events.Close c) rule found = is_open history c ≡ false → Shows found is_absence

-- the facts of a step
abbrev pub HasFor : Topology → List AnsweredEvent → Event → Answer → List Fact → Type 0
HasFor t history event (answers.Denied rule) found = HasKinds t history event rule found
HasFor t history event answer found = Unit {0}

-- the facts of the newest step
abbrev pub Has : Topology → List AnsweredEvent → List Fact → Type 0
Has t [] found = Unit {0}
Has t (step ∷ past) found = HasFor t (step ∷ past) step.event step.answer found

-- The meaning of each fact that explains a denial, by a history and the topology and limits of the device (own).
use Rattle.std.specs.Prelude.{◌≡◌, ℕ, ◌+◌, ◌<◌, ◌≤◌, ◌==◌, Bool, true, false, not, AllPairs, List, Option, None, Some, IfSome, length, option_and_then}
use Rattle.std.specs.Option.{is_some, option_map}
use Rattle.drm_table.specs.declared.limits.Limits.{Limits}
use Rattle.drm_table.specs.Table.{call_kind_of}
use Rattle.drm_modes.specs.Topology.{Topology, kind_of, object_count, crtc_of_plane, encoder_of}
use Rattle.drm_modes.specs.declared.kinds.Kind.TheVariants.{Encoder}
use Rattle.drm_history.specs.History.{AnsweredEvent, next_number}
use Rattle.drm_history.specs.Holds.{Has}
use Rattle.drm_history.specs.Steps.{Name, takes}
use Rattle.drm_history.specs.Lessees.{granted}
use Rattle.drm_history.specs.Magics.{magic_in}
use Rattle.drm_history.specs.MasterState.{master_in}
use Rattle.drm_history.specs.Shown.{is_universal_in}
use Rattle.drm_trails.specs.Handles.{is_given_at, is_held_since}
use Rattle.drm_rights.specs.Leases.{lease_of_token, leases_in}
use Rattle.drm_rights.specs.Ledgers.{authentication_of, authentications_in, controls_in}
use Rattle.drm_trails.specs.Passing.{first_step_after, last_step}
use Rattle.drm_trails.specs.Searches.{Sharing, last_gift, last_sharing}
use Rattle.drm_trails.specs.Steps.{key_of}
use Rattle.drm_rights.specs.declared.notes.Lease.{Lease}
use Rattle.drm_rights.specs.declared.notes.Authentication.{Authentication}
use Rattle.drm_trails.specs.declared.handles.Held.{Held}
use Rattle.drm_explanations.specs.Rows.{closed_step}
use Rattle.drm_explanations.specs.declared.rows.At.{At}
use Rattle.drm_refusals.specs.Leases.{lease_meant}
use Rattle.drm_refusals.specs.Searches.{gives, opens}
use Rattle.drm_refusals.specs.Withdrawals.{withdraws}
use Rattle.drm_refusals.specs.declared.facts.Fact.{Fact}
use Rattle.drm_refusals.specs.declared.facts.Fact.TheVariants as facts
use Rattle.drm_refusals.specs.declared.facts.ClientFact.{ClientFact}
use Rattle.drm_refusals.specs.declared.facts.ClientFact.TheVariants as clients
use Rattle.drm_refusals.specs.declared.facts.HandleFact.{HandleFact}
use Rattle.drm_refusals.specs.declared.facts.HandleFact.TheVariants as handles
use Rattle.drm_refusals.specs.declared.facts.PublishedFact.{PublishedFact}
use Rattle.drm_refusals.specs.declared.facts.PublishedFact.TheVariants as published
use Rattle.drm_refusals.specs.declared.facts.MagicFact.{MagicFact}
use Rattle.drm_refusals.specs.declared.facts.MagicFact.TheVariants as magics
use Rattle.drm_refusals.specs.declared.facts.LeaseFact.{LeaseFact}
use Rattle.drm_refusals.specs.declared.facts.LeaseFact.TheVariants as leases
use Rattle.drm_refusals.specs.declared.facts.ModeObjectFact.{ModeObjectFact}
use Rattle.drm_refusals.specs.declared.facts.ModeObjectFact.TheVariants as objects
use Rattle.drm_refusals.specs.declared.facts.SizeFact.{SizeFact}
use Rattle.drm_refusals.specs.declared.facts.SizeFact.TheVariants as sizes
use Rattle.drm_refusals.specs.declared.facts.Quantity.{Quantity}
use Rattle.drm_refusals.specs.declared.facts.Quantity.TheVariants.{Size, Width, Height, Bits}
use Rattle.drm_refusals.specs.declared.facts.LimitFact.{LimitFact}
use Rattle.drm_refusals.specs.declared.facts.LimitFact.TheVariants as limits
use Rattle.drm_refusals.specs.declared.facts.RequestFact.{RequestFact}
use Rattle.drm_refusals.specs.declared.facts.RequestFact.TheVariants as requests

-- ---- clients

-- a fact of a client
abbrev pub ClientHolds : List AnsweredEvent → ClientFact → Type 0
ClientHolds history (clients.Closed c step) = closed_step history c ≡ Some step
ClientHolds history (clients.NeverOpened c) = last_step (opens c) history ≡ None

-- ---- handles

-- this step is the last that took the handle, and no later one assigned it
pub record GaveBack (history : List AnsweredEvent) (c h step : ℕ) : Type 0 where
  pub taken : last_step (λ past. takes past c h) history ≡ Some step
  pub given : IfSome (last_step (gives c h) history) (λ given. given ≤ step)

-- these are the handles of the client, each with the step that assigned it, in rising order
pub record HoldsJust (history : List AnsweredEvent) (c : ℕ) (rows : List Held) : Type 0 where
  pub held : (h s : ℕ) → is_held_since rows h s ≡ is_given_at (last_gift history c h) s
  pub rising : AllPairs (λ (one other : Held). one.handle < other.handle) rows

-- a fact of handles
abbrev pub HandleHolds : List AnsweredEvent → HandleFact → Type 0
HandleHolds history (handles.GaveBack c h by) = GaveBack history c h by.step
HandleHolds history (handles.NeverGiven c h) = last_step (gives c h) history ≡ None
HandleHolds history (handles.Holds c held) = HoldsJust history c held.items

-- ---- names, tokens and framebuffers

-- the client that published, and the number of the step
abbrev pub publisher : Option Sharing → Option (ℕ × ℕ)
publisher found = option_map (λ (s : Sharing). (s.client, next_number s.past)) found

-- the last step that assigned the name assigned it to this buffer, of which the client had a handle
abbrev pub WasNamed : Option Sharing → ℕ → Type 0
WasNamed found buffer = IfSome found (λ (s : Sharing). Has s.past s.client s.handle buffer)

-- the last step that assigned the name, and its buffer
pub record IsNamed (history : List AnsweredEvent) (name buffer c step : ℕ) : Type 0 where
  pub by : publisher (last_sharing history (Name name)) ≡ Some (c, step)
  pub of : WasNamed (last_sharing history (Name name)) buffer

-- a fact of a name, a token or a framebuffer
abbrev pub PublishedHolds : List AnsweredEvent → PublishedFact → Type 0
PublishedHolds history (published.Never key) = last_sharing history (key_of key) ≡ None
PublishedHolds history (published.Named name buffer c step last) = IsNamed history name buffer c step
PublishedHolds history (published.Published key c step) =
    (publisher (last_sharing history (key_of key)) ≡ Some (c, step)) ×
    (first_step_after step (withdraws (key_of key) c) history ≡ None)
PublishedHolds history (published.Withdrawn key c step by) =
    (publisher (last_sharing history (key_of key)) ≡ Some (c, step)) ×
    (first_step_after step (withdraws (key_of key) c) history ≡ Some by.step)

-- ---- magics

-- the magic that an AUTH_MAGIC named, its caller and its step
abbrev pub spending : Authentication → ℕ × ℕ × ℕ
spending a = (a.magic, a.by, a.step)

-- a fact of a magic
abbrev pub MagicHolds : List AnsweredEvent → MagicFact → Type 0
MagicHolds history (magics.OfClosed master magic c step) =
    (magic_in history master magic ≡ Some c) × (closed_step history c ≡ Some step)
MagicHolds history (magics.Spent magic c by step) =
    option_map spending (authentication_of (authentications_in history) c) ≡ Some (magic, by, step)
MagicHolds history (magics.Lost master magic c) = magic_in history master magic ≡ Some c
MagicHolds history (magics.Unknown master magic) = magic_in history master magic ≡ None

-- ---- leases

-- the lessor of the lessee with this id
abbrev pub lessor_meant : List AnsweredEvent → ℕ → ℕ → Option ℕ
lessor_meant history c id = option_and_then (λ (l : Lease). l.lessor) (lease_meant history c id)

-- a fact of a lease
abbrev pub LeaseHolds : Topology → List AnsweredEvent → LeaseFact → Type 0
LeaseHolds t history (leases.LacksPlane c) = is_universal_in history c ≡ true
LeaseHolds t history (leases.LeasedOut id lease) = granted t history lease.master id ≡ true
LeaseHolds t history (leases.NoLessee c lessee) = lease_meant history c lessee ≡ None
LeaseHolds t history (leases.OtherLessor c lessee lessor master) =
    (lessor_meant history c lessee ≡ Some lessor) × (master_in history c ≡ Some master)
LeaseHolds t history (leases.TokenUsed token) = is_some (lease_of_token (leases_in history) token) ≡ true
LeaseHolds t history (leases.TokenUnknown token) = lease_of_token (leases_in history) token ≡ None

-- ---- mode objects

-- a fact of a mode object
abbrev pub ModeObjectHolds : Topology → List AnsweredEvent → ModeObjectFact → Type 0
ModeObjectHolds t history (objects.Nothing id count) = (kind_of t id ≡ None) × (count ≡ object_count t)
ModeObjectHolds t history (objects.OfKind id kind wanted) = kind_of t id ≡ Some kind
ModeObjectHolds t history (objects.Encoder id) = kind_of t id ≡ Some Encoder
ModeObjectHolds t history (objects.NotControlled c id kind) = controls_in t history c id ≡ false
ModeObjectHolds t history (objects.Hidden c plane crtc) =
    (crtc_of_plane t plane ≡ Some crtc) × (is_universal_in history c ≡ false)
ModeObjectHolds t history (objects.EncoderOf crtc connector encoder) = encoder_of t connector ≡ Some encoder

-- ---- numbers

-- the greatest value of a number
abbrev pub most_of : Quantity → ℕ
most_of Size = 68719476736
most_of Width = 65535
most_of Height = 65535
most_of Bits = 64

-- a fact of a number
abbrev pub SizeHolds : SizeFact → Type 0
SizeHolds (sizes.OutOfRange what number most) = (most ≡ most_of what) × ((1 ≤ number) → most < number)
SizeHolds (sizes.ShortPitch pitch least) = pitch < least
SizeHolds (sizes.ShortBuffer height pitch needed h size) = size < needed

-- ---- limits

-- a fact of a limit
abbrev pub LimitHolds : Limits → List AnsweredEvent → LimitFact → Type 0
LimitHolds l history (limits.Clients count most) = most ≡ l.clients
LimitHolds l history (limits.Handles c count most) = (most ≡ l.handles) × (most ≤ count)
LimitHolds l history (limits.Objects most) = most ≡ l.objects
LimitHolds l history (limits.Names most) = most ≡ l.names
LimitHolds l history (limits.Tokens most) = most ≡ l.tokens
LimitHolds l history (limits.Framebuffers most) = most ≡ l.framebuffers
LimitHolds l history (limits.Leases lessees tokens) = (lessees ≡ l.lessees) × (tokens ≡ l.tokens)
LimitHolds l history (limits.Journal used most clients) = (used ≡ length history) × (most ≡ l.journal)

-- ---- the request itself: its other numbers have no condition

-- a fact of the request
abbrev pub RequestHolds : RequestFact → Type 0
RequestHolds (requests.OtherFields number kind) = call_kind_of number ≡ Some kind
RequestHolds (requests.NoCall number) = call_kind_of number ≡ None
RequestHolds _ = Unit {0}

-- ---- all

-- a line of the explanation has its meaning by its rows
abbrev pub Holds : Topology → Limits → List AnsweredEvent → Fact → Type 0
Holds t l history (facts.Client fact) = ClientHolds history fact
Holds t l history (facts.Handle fact) = HandleHolds history fact
Holds t l history (facts.Published fact) = PublishedHolds history fact
Holds t l history (facts.Magic fact) = MagicHolds history fact
Holds t l history (facts.Lease fact) = LeaseHolds t history fact
Holds t l history (facts.ModeObject fact) = ModeObjectHolds t history fact
Holds t l history (facts.Size fact) = SizeHolds fact
Holds t l history (facts.Limit fact) = LimitHolds l history fact
Holds t l history (facts.Request fact) = RequestHolds fact
Holds t l history (facts.Told subject) = Unit {0}

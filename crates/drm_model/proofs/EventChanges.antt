-- Each accepted event leaves each list of rows alone, or takes rows out of it, changes rows of it, or adds new ones at its end: what
-- it does to each of the ten lists, before the sweep.
use Rattle.std.proofs.Common.{◌≡◌, ℕ, ◌==◌, Bool, true, false, not, ◌||◌, List, [], ◌∷◌, ◌++◌, map, Option, None, Some, refl}
use Rattle.std.specs.Prelude.{if◌then◌else◌, unwrap_or}
use Rattle.std.specs.Option.{option_map}
use Rattle.drm_index_array.proofs.Edits.{edited, listed, alone, left, added, mapped, replaced}
use Rattle.drm_table.specs.declared.calls.Call.{Call}
use Rattle.drm_table.specs.declared.calls.Call.TheVariants.{Version, GetMagic, GemClose, GemFlink, GemOpen, SetClientCap, AuthMagic, SetMaster, DropMaster, PrimeHandleToFd, PrimeFdToHandle, BufCreate, StampWrite, TokenClose, SetCrtc, GetFb, AddFb, RmFb, CreateDumb, DestroyDumb, SetPlane, CreateLease, RevokeLease}
use Rattle.drm_table.specs.declared.events.Event.{Event}
use Rattle.drm_table.specs.declared.events.Event.TheVariants.{Open, Ask, Close}
use Rattle.drm_table.specs.declared.events.Opening.{Opening}
use Rattle.drm_table.specs.declared.events.Opening.TheVariants.{Primary, Render, Lease}
use Rattle.drm_table.specs.declared.rules.Rule.{Rule}
use Rattle.drm_model.specs.Rows.{Rows, ClientRow, MasterRow, MagicRow, HandleRow, ObjectRow, NameRow, TokenRow, GrantRow, FramebufferRow, ShownRow, step_number, without, is_option, is_client, client_row, is_handle, object_of, free_handle, with_handle_row}
use Rattle.drm_model.specs.Masters.{new_master, master_of, is_under}
use Rattle.drm_model.specs.Magics.{caller_master, magic_of, free_magic, with_magic, is_open_magic, magic_client, with_spent, with_authenticated, is_current, is_master, with_master, mastered}
use Rattle.drm_model.specs.Leases.{ended, lease_master, new_lessee, new_lease_token, grant, leased, lessee_master}
use Rattle.drm_model.specs.Buffers.{buffer_size, dumb_size, with_object, with_stamp}
use Rattle.drm_model.specs.Sharing.{name_of, free_name, named, named_object, new_token, with_export_order, exported_object, prime_handle, imported, is_token_of}
use Rattle.drm_model.specs.Modes.{gives_handle, framebuffer_object, new_framebuffer, is_framebuffer_of}
use Rattle.drm_model.specs.ClientCapabilities.{opening_capabilities, with_capability}
use Rattle.drm_model.specs.Capabilities.{with_client_capability}
use Rattle.drm_model.specs.Clients.{opened, opened_primary, closed, ended_own, ended_if}
use Rattle.drm_model.specs.Calls.{meaning}
use Rattle.drm_model.specs.Verdict.{verdict}
use Rattle.drm_model.specs.Change.{changed, swept, journaled, after, after_verdict}
use Rattle.drm_model.specs.Run.{run}

-- ---- clients

-- of the device's master, or the first of a new one
abbrev pub primary_row : Rows → Bool → Bool → Option ℕ → ClientRow
primary_row w root universal None =
    record
    { client = step_number w; render = false; root = root; authenticated = true; once_master = true; is_master = true; master = Some (step_number w); capabilities = opening_capabilities universal }
primary_row w root universal (Some m) =
    record
    { client = step_number w; render = false; root = root; authenticated = root; once_master = false; is_master = false; master = Some m; capabilities = opening_capabilities universal }

abbrev pub opened_row : Rows → Opening → ClientRow
opened_row w (Primary root universal) = primary_row w root universal w.device_master
opened_row w Render =
    record
    { client = step_number w; render = true; root = false; authenticated = false; once_master = false; is_master = false; master = None; capabilities = opening_capabilities true }
opened_row w (Lease token root universal) =
    record { client = step_number w; render = false; root = root; authenticated = true; once_master = false; is_master = true; master = option_map (λ (row : MasterRow). row.master) (lease_master w token); capabilities = opening_capabilities universal }

abbrev pub client_stays : Rows → Event → ClientRow → Bool
client_stays w (Close c) row = not (row.client == c)
client_stays w _ row = true

-- with its own master where it is neither current nor a master
abbrev pub set_row : Rows → ℕ → Bool → Bool → ClientRow → ClientRow
set_row w c true master row = row
set_row w c false true row = row
set_row w c false false row =
    if is_client c row then record row
    { authenticated = true; once_master = true; is_master = true; master = Some (step_number w) } else row

abbrev pub client_after : Rows → Event → ClientRow → ClientRow
client_after w (Ask c (AuthMagic magic)) row =
    if is_option row.client (magic_client w (caller_master w c) magic) then record row { authenticated = true } else row
client_after w (Ask c SetMaster) row = set_row w c (is_current w c) (is_master w c) row
client_after w (Ask c (SetClientCap cap value)) row =
    if is_client c row then record row { capabilities = with_capability cap (value == 1) row.capabilities } else row
client_after w _ row = row

abbrev pub new_client_row : Rows → Event → Option ClientRow
new_client_row w (Open opening) = Some (opened_row w opening)
new_client_row w _ = None

-- ---- masters and grants

-- whether a master is that of a closing client, which is a master, or below it
abbrev pub own_ends : Rows → Bool → Option ℕ → ℕ → Bool
own_ends w true (Some top) m = is_under w.masters top m
own_ends w true None m = false
own_ends w false top m = false

abbrev pub closing_ends : Rows → Option ClientRow → ℕ → Bool
closing_ends w (Some row) m = own_ends w row.is_master row.master m
closing_ends w None m = false

-- whether what the master has of its lessor ends
abbrev pub ends_with : Rows → Event → ℕ → Bool
ends_with w (Close c) m = closing_ends w (client_row w c) m
ends_with w (Ask c (RevokeLease lessee)) m = is_under w.masters (lessee_master w (caller_master w c) lessee) m
ends_with w _ m = false

abbrev pub spends_token : Rows → Event → MasterRow → Bool
spends_token w (Open (Lease token root universal)) row = is_option token row.lease_token
spends_token w event row = ends_with w event row.master

abbrev pub master_after : Rows → Event → MasterRow → MasterRow
master_after w event row = if spends_token w event row then record row { lease_token = None } else row

abbrev pub founded_master : Rows → Option ℕ → Option MasterRow
founded_master w None = Some (new_master (step_number w))
founded_master w (Some m) = None

abbrev pub set_master_row : Rows → Bool → Bool → Option MasterRow
set_master_row w current master = if current || master then None else Some (new_master (step_number w))

abbrev pub new_master_row : Rows → Event → Option MasterRow
new_master_row w (Open (Primary root universal)) = founded_master w w.device_master
new_master_row w (Ask c SetMaster) = set_master_row w (is_current w c) (is_master w c)
new_master_row w (Ask c (CreateLease ids)) = Some (new_lessee w (caller_master w c))
new_master_row w _ = None

abbrev pub grant_stays : Rows → Event → GrantRow → Bool
grant_stays w event row = not (ends_with w event row.master)

abbrev pub new_grants : Rows → Event → List GrantRow
new_grants w (Ask c (CreateLease ids)) = map (grant (step_number w)) (leased w c ids)
new_grants w _ = []

-- ---- magics

abbrev pub magic_stays : Rows → Event → MagicRow → Bool
magic_stays w (Close c) row = not (row.client == c)
magic_stays w (Ask c SetMaster) row = is_current w c || (is_master w c || not (row.client == c))
magic_stays w _ row = true

abbrev pub magic_after : Rows → Event → MagicRow → MagicRow
magic_after w (Ask c (AuthMagic magic)) row =
    if is_open_magic (caller_master w c) magic row then record row { spent = true } else row
magic_after w _ row = row

abbrev pub new_magic : Rows → ℕ → MagicRow
new_magic w c =
    record
    { master = caller_master w c; number = unwrap_or (free_magic w (caller_master w c)) 0; client = c; spent = false }

abbrev pub got_magic : Rows → ℕ → Option ℕ → Option MagicRow
got_magic w c (Some number) = None
got_magic w c None = Some (new_magic w c)

abbrev pub new_magic_row : Rows → Event → Option MagicRow
new_magic_row w (Ask c GetMagic) = got_magic w c (magic_of w c)
new_magic_row w _ = None

-- ---- handles and objects

abbrev pub handle_stays : Rows → Event → HandleRow → Bool
handle_stays w (Close c) row = not (row.client == c)
handle_stays w (Ask c (GemClose handle)) row = not (is_handle c handle row)
handle_stays w (Ask c (DestroyDumb handle)) row = not (is_handle c handle row)
handle_stays w _ row = true

abbrev pub handle_after : Rows → Event → HandleRow → HandleRow
handle_after w (Ask c (PrimeHandleToFd handle)) row =
    if is_handle c handle row then record row { export_order = Some (unwrap_or row.export_order (step_number w)) } else
    row
handle_after w _ row = row

abbrev pub fresh_handle_row : Rows → ℕ → ℕ → Option ℕ → HandleRow
fresh_handle_row w c o export_order =
    record { client = c; handle = unwrap_or (free_handle w c) 0; object = o; export_order = export_order }

abbrev pub imported_handle_row : Rows → ℕ → ℕ → Option ℕ → Option HandleRow
imported_handle_row w c o (Some handle) = None
imported_handle_row w c o None = Some (fresh_handle_row w c o (Some (step_number w)))

abbrev pub new_handle_row : Rows → Event → Option HandleRow
new_handle_row w (Ask c (GemOpen name)) = Some (fresh_handle_row w c (unwrap_or (named_object w name) 0) None)
new_handle_row w (Ask c (PrimeFdToHandle token)) =
    imported_handle_row w c (unwrap_or (exported_object w token) 0)
    (prime_handle w c (unwrap_or (exported_object w token) 0))
new_handle_row w (Ask c (BufCreate size)) = Some (fresh_handle_row w c (step_number w) None)
new_handle_row w (Ask c (CreateDumb width height bpp)) = Some (fresh_handle_row w c (step_number w) None)
new_handle_row w (Ask c (GetFb f)) =
    if gives_handle w c then Some (fresh_handle_row w c (framebuffer_object w f) None) else None
new_handle_row w _ = None

abbrev pub object_after : Rows → Event → ObjectRow → ObjectRow
object_after w (Ask c (StampWrite handle stamp)) row =
    if row.object == object_of w c handle then record row { stamp = stamp } else row
object_after w _ row = row

abbrev pub new_object_row : Rows → Event → Option ObjectRow
new_object_row w (Ask c (BufCreate size)) = Some (record { object = step_number w; size = buffer_size size; stamp = 0 })
new_object_row w (Ask c (CreateDumb width height bpp)) =
    Some (record { object = step_number w; size = dumb_size width height bpp; stamp = 0 })
new_object_row w _ = None

-- ---- names and tokens

abbrev pub flinked_name : Rows → ℕ → Option ℕ → Option NameRow
flinked_name w o (Some name) = None
flinked_name w o None = Some (record { name = unwrap_or (free_name w) 0; object = o })

abbrev pub new_name_row : Rows → Event → Option NameRow
new_name_row w (Ask c (GemFlink handle)) = flinked_name w (object_of w c handle) (name_of w (object_of w c handle))
new_name_row w _ = None

abbrev pub token_stays : Rows → Event → TokenRow → Bool
token_stays w (Close c) row = not (row.client == c)
token_stays w (Ask c (TokenClose token)) row = not (is_token_of c token row)
token_stays w _ row = true

abbrev pub new_token_row : Rows → Event → Option TokenRow
new_token_row w (Ask c (PrimeHandleToFd handle)) =
    Some (record { token = new_token w; client = c; object = object_of w c handle })
new_token_row w _ = None

-- ---- framebuffers and what is shown

abbrev pub framebuffer_stays : Rows → Event → FramebufferRow → Bool
framebuffer_stays w (Close c) row = not (row.client == c)
framebuffer_stays w (Ask c (RmFb f)) row = not (is_framebuffer_of c f row)
framebuffer_stays w _ row = true

abbrev pub new_framebuffer_row : Rows → Event → Option FramebufferRow
new_framebuffer_row w (Ask c (AddFb width height pitch bpp handle)) =
    Some
    (record { framebuffer = new_framebuffer w; client = c; object = object_of w c handle; width = width; height = height; pitch = pitch; bpp = bpp })
new_framebuffer_row w _ = None

abbrev pub shown_stays : Event → ShownRow → Bool
shown_stays (Ask c (SetCrtc crtc f connector)) row = not (row.engine == crtc)
shown_stays (Ask c (SetPlane plane crtc f)) row = not (row.engine == plane)
shown_stays _ row = true

abbrev pub now_shown : ℕ → ℕ → Option ShownRow
now_shown x f = if f == 0 then None else Some (record { engine = x; framebuffer = f })

abbrev pub new_shown_row : Event → Option ShownRow
new_shown_row (Ask c (SetCrtc crtc f connector)) = now_shown crtc f
new_shown_row (Ask c (SetPlane plane crtc f)) = now_shown plane f
new_shown_row _ = None

-- ---- the rows after an event, before the sweep

-- all but the lists are as in v, but for what no event changes
abbrev pub edited_rows : Rows → Event → Rows → Rows
edited_rows w event v = record w {
  clients = edited (client_stays w event) (client_after w event) (listed (new_client_row w event)) w.clients;
  masters = edited (λ row. true) (master_after w event) (listed (new_master_row w event)) w.masters;
  magics = edited (magic_stays w event) (magic_after w event) (listed (new_magic_row w event)) w.magics;
  holds = edited (handle_stays w event) (handle_after w event) (listed (new_handle_row w event)) w.holds;
  objects = edited (λ row. true) (object_after w event) (listed (new_object_row w event)) w.objects;
  names = edited (λ row. true) (λ row. row) (listed (new_name_row w event)) w.names;
  tokens = edited (token_stays w event) (λ row. row) (listed (new_token_row w event)) w.tokens;
  grants = edited (grant_stays w event) (λ row. row) (new_grants w event) w.grants;
  framebuffers = edited (framebuffer_stays w event) (λ row. row) (listed (new_framebuffer_row w event)) w.framebuffers;
  shown = edited (shown_stays event) (λ row. row) (listed (new_shown_row event)) w.shown;
  device_master = v.device_master;
  last_token = v.last_token;
  last_lease_token = v.last_lease_token;
}

module _ (w : Rows) where
  -- with all lists left alone
  abbrev alone_rows : Rows → Rows
  alone_rows v = edited_rows w (Ask 0 Version) v

  left_alone : w ≡ alone_rows w
  left_alone = λ i. record w {
    clients = alone w.clients i;
    masters = alone w.masters i;
    magics = alone w.magics i;
    holds = alone w.holds i;
    objects = alone w.objects i;
    names = alone w.names i;
    tokens = alone w.tokens i;
    grants = alone w.grants i;
    framebuffers = alone w.framebuffers i;
    shown = alone w.shown i;
  }

  -- ---- what goes by what exists

  primary : (root universal : Bool) (m : Option ℕ) → opened_primary w root universal m ≡ record (alone_rows (opened_primary w root universal m)) {
    clients = edited (λ row. true) (λ row. row) (primary_row w root universal m ∷ []) w.clients;
    masters = edited (λ row. true) (λ row. row) (listed (founded_master w m)) w.masters;
  }
  primary root universal None =
      λ i. record (left_alone i)
      { clients = added w.clients (primary_row w root universal None ∷ []) i; masters = added w.masters (new_master (step_number w) ∷ []) i; device_master = Some (step_number w) }
  primary root universal (Some m) =
      λ i. record (left_alone i) { clients = added w.clients (primary_row w root universal (Some m) ∷ []) i }

  sets : (c : ℕ) (current master : Bool) → mastered w c current master ≡ record (alone_rows (mastered w c current master)) {
    clients = edited (λ row. true) (set_row w c current master) [] w.clients;
    masters = edited (λ row. true) (λ row. row) (listed (set_master_row w current master)) w.masters;
    magics = edited (λ row. current || (master || not (row.client == c))) (λ row. row) [] w.magics;
  }
  unfolding with_master
  sets c true master = left_alone
  sets c false true = λ i. record (left_alone i) { device_master = master_of w c }
  sets c false false = λ i. record (left_alone i) {
    clients = mapped (set_row w c false false) w.clients i;
    masters = added w.masters (new_master (step_number w) ∷ []) i;
    magics = left (λ row. not (row.client == c)) w.magics i;
    device_master = Some (step_number w);
  }

  own : (is_master : Bool) (m : Option ℕ) → ended_if w is_master m ≡ record (alone_rows (ended_if w is_master m)) {
    masters =
        edited (λ row. true)
        (λ row. if own_ends w is_master m row.master then record row { lease_token = None } else row) [] w.masters;
    grants = edited (λ row. not (own_ends w is_master m row.master)) (λ row. row) [] w.grants;
  }
  unfolding ended
  own true (Some m) = λ i. record (left_alone i) {
    masters =
        mapped (λ row. if is_under w.masters m row.master then record row { lease_token = None } else row) w.masters i;
    grants = left (λ row. not (is_under w.masters m row.master)) w.grants i;
    device_master = if is_option m w.device_master then None else w.device_master;
  }
  own true None = left_alone
  own false m = left_alone

  own_of : (row : Option ClientRow) → ended_own w row ≡ record (alone_rows (ended_own w row)) {
    masters =
        edited (λ x. true) (λ x. if closing_ends w row x.master then record x { lease_token = None } else x) []
        w.masters;
    grants = edited (λ x. not (closing_ends w row x.master)) (λ x. x) [] w.grants;
  }
  own_of (Some row) = own row.is_master row.master
  own_of None = left_alone

  gets : (c : ℕ) (magic : Option ℕ)
      → with_magic w c (caller_master w c) magic ≡ edited (λ row. true) (λ row. row) (listed (got_magic w c magic)) w.magics
  gets c (Some number) = alone w.magics
  gets c None = added w.magics (new_magic w c ∷ [])

  imports : (c o : ℕ) (handle : Option ℕ)
      → imported w c o handle ≡ edited (λ row. true) (λ row. row) (listed (imported_handle_row w c o handle)) w.holds
  imports c o (Some handle) = alone w.holds
  imports c o None = added w.holds (fresh_handle_row w c o (Some (step_number w)) ∷ [])

  gives : (c o : ℕ) (is_given : Bool)
      → (if is_given then with_handle_row w c o None else w.holds) ≡ edited (λ row. true) (λ row. row) (listed (if is_given then Some (fresh_handle_row w c o None) else None)) w.holds
  gives c o true = added w.holds (fresh_handle_row w c o None ∷ [])
  gives c o false = alone w.holds

  flinks : (o : ℕ) (name : Option ℕ)
      → named w o name ≡ edited (λ row. true) (λ row. row) (listed (flinked_name w o name)) w.names
  flinks o (Some name) = alone w.names
  flinks o None = added w.names (record { name = unwrap_or (free_name w) 0; object = o } ∷ [])

  shows : (x f : ℕ) (is_dark : Bool)
      → without (λ (row : ShownRow). row.engine == x) w.shown ++ (if is_dark then [] else record { engine = x; framebuffer = f } ∷ []) ≡
      edited (λ (row : ShownRow). not (row.engine == x)) (λ row. row)
      (listed (if is_dark then None else Some (record { engine = x; framebuffer = f }))) w.shown
  shows x f true = replaced (λ (row : ShownRow). not (row.engine == x)) w.shown []
  shows x f false =
      replaced (λ (row : ShownRow). not (row.engine == x)) w.shown (record { engine = x; framebuffer = f } ∷ [])

  -- ---- each event

  asked : (c : ℕ) (call : Call) → (meaning w c call).rows ≡ edited_rows w (Ask c call) (meaning w c call).rows
  unfolding meaning ended with_object with_stamp with_export_order with_authenticated with_spent with_client_capability
  asked c GetMagic = λ i. record (left_alone i) { magics = gets c (magic_of w c) i }
  asked c (AuthMagic magic) =
      λ i. record (left_alone i)
      { clients = mapped (client_after w (Ask c (AuthMagic magic))) w.clients i; magics = mapped (magic_after w (Ask c (AuthMagic magic))) w.magics i }
  asked c SetMaster = sets c (is_current w c) (is_master w c)
  asked c DropMaster = λ i. record (left_alone i) { device_master = None }
  asked c (SetClientCap number value) =
      λ i. record (left_alone i) { clients = mapped (client_after w (Ask c (SetClientCap number value))) w.clients i }
  asked c (GemClose handle) =
      λ i. record (left_alone i) { holds = left (handle_stays w (Ask c (GemClose handle))) w.holds i }
  asked c (DestroyDumb handle) =
      λ i. record (left_alone i) { holds = left (handle_stays w (Ask c (DestroyDumb handle))) w.holds i }
  asked c (GemFlink handle) =
      λ i. record (left_alone i) { names = flinks (object_of w c handle) (name_of w (object_of w c handle)) i }
  asked c (GemOpen name) =
      λ i. record (left_alone i) { holds = added w.holds (listed (new_handle_row w (Ask c (GemOpen name)))) i }
  asked c (PrimeHandleToFd handle) = λ i. record (left_alone i) {
    holds = mapped (handle_after w (Ask c (PrimeHandleToFd handle))) w.holds i;
    tokens = added w.tokens (listed (new_token_row w (Ask c (PrimeHandleToFd handle)))) i;
    last_token = new_token w;
  }
  asked c (PrimeFdToHandle token) =
      λ i. record (left_alone i)
      { holds = imports c (unwrap_or (exported_object w token) 0) (prime_handle w c (unwrap_or (exported_object w token) 0)) i }
  asked c (TokenClose token) =
      λ i. record (left_alone i) { tokens = left (token_stays w (Ask c (TokenClose token))) w.tokens i }
  asked c (BufCreate size) =
      λ i. record (left_alone i)
      { holds = added w.holds (listed (new_handle_row w (Ask c (BufCreate size)))) i; objects = added w.objects (listed (new_object_row w (Ask c (BufCreate size)))) i }
  asked c (CreateDumb width height bpp) = λ i. record (left_alone i) {
    holds = added w.holds (listed (new_handle_row w (Ask c (CreateDumb width height bpp)))) i;
    objects = added w.objects (listed (new_object_row w (Ask c (CreateDumb width height bpp)))) i;
  }
  asked c (StampWrite handle stamp) =
      λ i. record (left_alone i) { objects = mapped (object_after w (Ask c (StampWrite handle stamp))) w.objects i }
  asked c (GetFb f) = λ i. record (left_alone i) { holds = gives c (framebuffer_object w f) (gives_handle w c) i }
  asked c (AddFb width height pitch bpp handle) =
      λ i. record (left_alone i)
      { framebuffers = added w.framebuffers (listed (new_framebuffer_row w (Ask c (AddFb width height pitch bpp handle)))) i }
  asked c (RmFb f) =
      λ i. record (left_alone i) { framebuffers = left (framebuffer_stays w (Ask c (RmFb f))) w.framebuffers i }
  asked c (SetCrtc crtc f connector) = λ i. record (left_alone i) { shown = shows crtc f (f == 0) i }
  asked c (SetPlane plane crtc f) = λ i. record (left_alone i) { shown = shows plane f (f == 0) i }
  asked c (CreateLease ids) = λ i. record (left_alone i) {
    masters = added w.masters (listed (new_master_row w (Ask c (CreateLease ids)))) i;
    grants = added w.grants (new_grants w (Ask c (CreateLease ids))) i;
    last_lease_token = new_lease_token w;
  }
  asked c (RevokeLease lessee) =
      λ i. record (left_alone i)
      { masters = mapped (master_after w (Ask c (RevokeLease lessee))) w.masters i; grants = left (grant_stays w (Ask c (RevokeLease lessee))) w.grants i }
  asked c call = left_alone

  -- An event changes rows as `edited_rows` says: it edits each list, and else only the device's master and the last
  -- tokens.
  pub each_edits : (event : Event) → changed w event ≡ edited_rows w event (changed w event)
  unfolding changed opened closed
  each_edits (Open (Primary root universal)) = primary root universal w.device_master
  each_edits (Open Render) = λ i. record (left_alone i) { clients = added w.clients (opened_row w Render ∷ []) i }
  each_edits (Open (Lease token root universal)) = λ i. record (left_alone i) {
    clients = added w.clients (opened_row w (Lease token root universal) ∷ []) i;
    masters = mapped (master_after w (Open (Lease token root universal))) w.masters i;
  }
  each_edits (Ask c call) = asked c call
  each_edits (Close c) = λ i. record (own_of (client_row w c) i) {
    clients = left (client_stays w (Close c)) w.clients i;
    magics = left (magic_stays w (Close c)) w.magics i;
    holds = left (handle_stays w (Close c)) w.holds i;
    tokens = left (token_stays w (Close c)) w.tokens i;
    framebuffers = left (framebuffer_stays w (Close c)) w.framebuffers i;
  }

-- ---- steps and runs

-- What holds after a denial, and after an accepted event with its sweep, holds after any event.
pub by_verdict : (P : Rows → Type 0) (w : Rows) (event : Event) → P (journaled w)
    → (verdict w event ≡ None → P (journaled (swept (changed w event)))) → P (after w event)
unfolding after
by_verdict P w event denied accepted = by (verdict w event) refl
  where
    by : (v : Option Rule) → verdict w event ≡ v → P (after_verdict v w event)
    by None e = accepted e
    by (Some rule) e = denied

-- What each step keeps, a run keeps.
pub along : (P : Rows → Type 0) → ((w : Rows) (event : Event) → P w → P (after w event))
    → (events : List Event) (w : Rows) → P w → P (run w events)
unfolding run
along P keeps [] w h = h
along P keeps (event ∷ events) w h = along P keeps events (after w event) (keeps w event h)

-- The rows of a device (drm-uapi, drm-mm, drm(7) and drm-gem(7)). They are flat lists, in which a client, a master or
-- an object is named by its step number, the number of the step that created it (own).
use Rattle.std.specs.Prelude.{ℕ, ◌+◌, ◌==◌, Bool, false, not, ◌&&◌, nat_lt, List, [], ◌∷◌, ◌++◌, length, Option, None, Some, unwrap_or, find, map, filter}
use Rattle.std.specs.Option.{is_some, option_map, option_map_or}
use Rattle.drm_index_array.specs.Numbers.{is_among}
use Rattle.drm_table.specs.declared.limits.Limits.{Limits}
use Rattle.drm_index_array.specs.Least.{least}
use Rattle.drm_modes.specs.Topology.{Topology}
use Rattle.drm_model.specs.ClientCapabilities.{ClientCapabilities}

-- an open client; a render client's master is none (drm-uapi: primary and render nodes, client capabilities)
pub record ClientRow : Type 0 where
  pub client : ℕ
  pub render : Bool
  pub root : Bool
  pub authenticated : Bool
  pub once_master : Bool
  pub is_master : Bool
  pub master : Option ℕ
  pub capabilities : ClientCapabilities

-- a master; a lessee has a lessor, and the lease token where no client redeemed it (drm-uapi, leases; the token own)
pub record MasterRow : Type 0 where
  pub master : ℕ
  pub lessor : Option ℕ
  pub lessee_id : ℕ
  pub lease_token : Option ℕ

-- a magic of a master, given to a client (drm(7))
pub record MagicRow : Type 0 where
  pub master : ℕ
  pub number : ℕ
  pub client : ℕ
  pub spent : Bool

-- a client's handle of an object (drm-gem(7)); the export order is the step that exported or imported it (own)
pub record HandleRow : Type 0 where
  pub client : ℕ
  pub handle : ℕ
  pub object : ℕ
  pub export_order : Option ℕ

-- a buffer, its size in bytes (drm-mm); the stamp represents its contents (own)
pub record ObjectRow : Type 0 where
  pub object : ℕ
  pub size : ℕ
  pub stamp : ℕ

-- a global name of an object (drm-gem(7), flink)
pub record NameRow : Type 0 where
  pub name : ℕ
  pub object : ℕ

-- an exported object (drm-mm, PRIME; a token for the descriptor is own)
pub record TokenRow : Type 0 where
  pub token : ℕ
  pub client : ℕ
  pub object : ℕ

-- a mode object in the lease of a master (drm-uapi, leases)
pub record GrantRow : Type 0 where
  pub master : ℕ
  pub mode_object : ℕ

-- a framebuffer: its owner, its object and its shape (drm-uapi)
pub record FramebufferRow : Type 0 where
  pub framebuffer : ℕ
  pub client : ℕ
  pub object : ℕ
  pub width : ℕ
  pub height : ℕ
  pub pitch : ℕ
  pub bpp : ℕ

-- what a CRTC or a plane shows (drm-uapi)
pub record ShownRow : Type 0 where
  pub engine : ℕ
  pub framebuffer : ℕ

-- all that a device holds
pub record Rows : Type 0 where
  pub topology : Topology
  pub limits : Limits
  pub steps : ℕ
  pub clients : List ClientRow
  pub masters : List MasterRow
  pub magics : List MagicRow
  pub holds : List HandleRow
  pub objects : List ObjectRow
  pub names : List NameRow
  pub tokens : List TokenRow
  pub grants : List GrantRow
  pub framebuffers : List FramebufferRow
  pub shown : List ShownRow
  pub device_master : Option ℕ
  pub last_token : ℕ
  pub last_lease_token : ℕ

-- a device that no client has opened yet
abbrev pub empty_rows : Topology → Limits → Rows
empty_rows topology limits = record {
  topology = topology;
  limits = limits;
  steps = 0;
  clients = [];
  masters = [];
  magics = [];
  holds = [];
  objects = [];
  names = [];
  tokens = [];
  grants = [];
  framebuffers = [];
  shown = [];
  device_master = None;
  last_token = 0;
  last_lease_token = 0;
}

-- the number of the step that is being made (own)
abbrev pub step_number : Rows → ℕ
step_number w = w.steps + 1

-- the rows that don't pass the test
abbrev pub without : {X : Type 0} → (X → Bool) → List X → List X
without test rows = filter (λ row. not (test row)) rows

-- whether the option is this number
abbrev pub is_option : ℕ → Option ℕ → Bool
is_option n None = false
is_option n (Some m) = m == n

-- clients

-- whether the row is the client's
abbrev pub is_client : ℕ → ClientRow → Bool
is_client c row = row.client == c

-- the row of a client, if it is open
abbrev pub client_row : Rows → ℕ → Option ClientRow
client_row w c = find (is_client c) w.clients

-- whether a client is open
abbrev pub is_open : Rows → ℕ → Bool
is_open w c = is_some (client_row w c)

-- whether the client is open and its row passes the test
abbrev pub client_has : (ClientRow → Bool) → Rows → ℕ → Bool
client_has test w c = option_map_or test (client_row w c) false

-- whether one more client may be open (the limit is own)
abbrev pub has_client_room : Rows → Bool
has_client_room w = nat_lt (length w.clients) w.limits.clients

-- magics

-- the row of a client's magic, if it has one
abbrev pub magic_row : Rows → ℕ → Option MagicRow
magic_row w c = find (λ row. row.client == c) w.magics

-- handles and objects

-- whether the row is that of the client's handle
abbrev pub is_handle : ℕ → ℕ → HandleRow → Bool
is_handle c h row = (row.client == c) && (row.handle == h)

-- the row of a client's handle, if it has it
abbrev pub handle_row : Rows → ℕ → ℕ → Option HandleRow
handle_row w c h = find (is_handle c h) w.holds

-- whether a client has a handle
abbrev pub has_handle : Rows → ℕ → ℕ → Bool
has_handle w c h = is_some (handle_row w c h)

-- the object that the client's handle names; 0 if it has no such handle
abbrev pub object_of : Rows → ℕ → ℕ → ℕ
object_of w c h = unwrap_or (option_map (λ (row : HandleRow). row.object) (handle_row w c h)) 0

-- the row of an object, if it exists
abbrev pub object_row : Rows → ℕ → Option ObjectRow
object_row w o = find (λ row. row.object == o) w.objects

-- the handles of a client
abbrev pub handles_of : Rows → ℕ → List ℕ
handles_of w c = map (λ row. row.handle) (filter (λ row. row.client == c) w.holds)

-- handles are a client's own, the lowest free from 1 (drm-gem(7); the kernel's IDR returns the lowest; the limit is
-- own)
abbrev pub free_handle : Rows → ℕ → Option ℕ
free_handle w c = least (λ h. not (is_among (handles_of w c) h)) 1 w.limits.handles

-- whether one more object may be there (the limit is own)
abbrev pub has_object_room : Rows → Bool
has_object_room w = nat_lt (length w.objects) w.limits.objects

-- a fresh handle of the object, with or without an export order
abbrev pub with_handle_row : Rows → ℕ → ℕ → Option ℕ → List HandleRow
with_handle_row w c o export_order =
    w.holds ++ record { client = c; handle = unwrap_or (free_handle w c) 0; object = o; export_order = export_order } ∷
    []

-- framebuffers

-- the row of a framebuffer, if it exists
abbrev pub framebuffer_row : Rows → ℕ → Option FramebufferRow
framebuffer_row w f = find (λ row. row.framebuffer == f) w.framebuffers

-- whether an id is a framebuffer's
abbrev pub is_framebuffer : Rows → ℕ → Bool
is_framebuffer w f = is_some (framebuffer_row w f)

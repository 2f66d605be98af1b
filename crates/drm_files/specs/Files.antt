-- The open clients and the handles that they hold, as flat lists (drm-uapi, drm-gem(7)).
use Rattle.std.specs.Prelude.{◌≡◌, ℕ, ◌==◌, ◌≤◌, ◌&&◌, ◌||◌, Bool, true, false, not, if◌then◌else◌, nat_lt, List, [], map, filter, find, slice_get, Option, None, Some, is_some, option_map}
use Rattle.std.specs.List.{list_any, filter_map, AllByRecursion}
use Rattle.std.specs.Option.{option_or, option_and_then, option_map_or}
use Rattle.drm_index_array.specs.Least.{least, least_of}
pub use Rattle.drm_index_array.specs.Rows.{placed, InOrder}
use Rattle.drm_files.specs.declared.rows.ClientCapability.{ClientCapability}
use Rattle.drm_files.specs.declared.rows.ClientCapability.TheVariants.{UniversalPlanes}
use Rattle.drm_files.specs.declared.rows.FileFlags.{FileFlags}
use Rattle.drm_files.specs.declared.rows.FileClient.{FileClient}
use Rattle.drm_files.specs.declared.rows.FileHandle.{FileHandle}
use Rattle.drm_files.specs.declared.rows.FileRow.{FileRow}
use Rattle.drm_files.specs.declared.rows.FileRow.TheVariants.{Client, Hold}

-- `limit` clients may be open, and each may hold the handles from 1 to `last_handle`. The clients rise, and the holds
-- are in the order of their clients, and then of their handles
pub record FileLists : Type 0 where
  pub limit : ℕ
  pub last_handle : ℕ
  pub clients : List FileClient
  pub holds : List FileHandle

-- the lists without clients
abbrev pub empty_files : ℕ → ℕ → FileLists
empty_files limit last_handle = record { limit = limit; last_handle = last_handle; clients = []; holds = [] }

-- whether the row is that of the client
abbrev pub is_client : ℕ → FileClient → Bool
is_client c row = row.client == c

-- whether the client has the row's handle
abbrev pub of_client : ℕ → FileHandle → Bool
of_client c row = row.client == c

-- whether the row is that of the client's handle
abbrev pub is_handle : ℕ → ℕ → FileHandle → Bool
is_handle c h row = (row.client == c) && (row.handle == h)

-- the row at a place of an audit's kind, of which clients are the first and handles the sixth (own)
abbrev pub nth_row : FileLists → ℕ → ℕ → Option FileRow
nth_row files kind i =
    if kind == 1 then option_map Client (slice_get files.clients i)
    else if kind == 6 then option_map Hold (slice_get files.holds i)
    else None

-- the client is open
abbrev pub is_open_client : FileLists → ℕ → Bool
is_open_client files c = is_some (find (is_client c) files.clients)

-- whether one row is before another: clients rise
abbrev pub client_before : FileClient → FileClient → Bool
client_before x y = nat_lt x.client y.client

-- whether one row is before another: clients rise, then handles
abbrev pub handle_before : FileHandle → FileHandle → Bool
handle_before x y = nat_lt x.client y.client || ((x.client == y.client) && nat_lt x.handle y.handle)

-- whether the row follows the client's handle, in the same order
abbrev pub comes_after : ℕ → ℕ → FileHandle → Bool
comes_after c h row = nat_lt c row.client || ((row.client == c) && nat_lt h row.handle)

-- a row with a client and its flags
abbrev pub client : ℕ → FileFlags → FileClient
client c flags = record { client = c; flags = flags }

-- a row with a client, a handle, an object and an export order
abbrev pub hold : ℕ → ℕ → ℕ → Option ℕ → FileHandle
hold c h object export_order = record { client = c; handle = h; object = object; export_order = export_order }

-- a new client is authenticated where it is root
abbrev pub new_flags : Bool → Bool → Bool → FileFlags
new_flags render root universal = record { render = render; root = root; authenticated = root; universal = universal }

-- the row of the client, authenticated
abbrev pub authenticated : FileClient → FileClient
authenticated row = record row { flags = record row.flags { authenticated = true } }

-- the flags with a capability on or off (drm-uapi, client capabilities)
abbrev pub capable : ClientCapability → Bool → FileFlags → FileFlags
capable UniversalPlanes on flags = record flags { universal = on }

-- the row of the client, with a capability on or off
abbrev pub with_capable : ClientCapability → Bool → FileClient → FileClient
with_capable capability on row = record row { flags = capable capability on row.flags }

-- the handles of a client, rising
abbrev pub handles_of : FileLists → ℕ → List ℕ
handles_of files c = map (λ row. row.handle) (filter (of_client c) files.holds)

-- whether a number is in a list
abbrev pub is_among : List ℕ → ℕ → Bool
is_among numbers n = list_any (λ x. x == n) numbers

-- the least handle that the client doesn't hold
abbrev pub free_handle : FileLists → ℕ → Option ℕ
free_handle files c = least (λ h. not (is_among (handles_of files c) h)) 1 files.last_handle

-- the handles of a client with their objects
abbrev pub left_by : FileLists → ℕ → List (ℕ × ℕ)
left_by files c = map (λ row. (row.handle, row.object)) (filter (of_client c) files.holds)

-- the lists with a client more
abbrev pub with_client : FileLists → ℕ → FileFlags → FileLists
with_client files c flags = record files { clients = placed client_before (client c flags) files.clients }

-- the lists without a client and its handles
abbrev pub without_client : FileLists → ℕ → FileLists
without_client files c = record files {
  clients = filter (λ row. not (is_client c row)) files.clients;
  holds = filter (λ row. not (of_client c row)) files.holds;
}

-- the lists with a handle more
abbrev pub with_handle_row : FileLists → FileHandle → FileLists
with_handle_row files row = record files { holds = placed handle_before row files.holds }

-- the lists without a handle
abbrev pub without_handle_row : FileLists → ℕ → ℕ → FileLists
without_handle_row files c h = record files { holds = filter (λ row. not (is_handle c h row)) files.holds }

-- what the client's row is made into
abbrev pub with_change : (FileClient → FileClient) → FileLists → ℕ → FileLists
with_change change files c =
    record files { clients = map (λ row. if is_client c row then change row else row) files.clients }

-- the lists with the client authenticated
abbrev pub with_authenticated : FileLists → ℕ → FileLists
with_authenticated files c = with_change authenticated files c

-- the lists with a capability of the client on or off
abbrev pub with_capability : FileLists → ℕ → ClientCapability → Bool → FileLists
with_capability files c capability on = with_change (with_capable capability on) files c

-- the lists with the client's universal planes on or off
abbrev pub with_universal : FileLists → ℕ → Bool → FileLists
with_universal files c on = with_capability files c UniversalPlanes on

-- a handle of the client for the object
abbrev pub is_handle_of : ℕ → ℕ → FileHandle → Bool
is_handle_of c object row = (row.client == c) && (row.object == object)

-- the export orders of the client's handles for the object
abbrev pub export_orders_of : FileLists → ℕ → ℕ → List ℕ
export_orders_of files c object = filter_map (λ row. row.export_order) (filter (is_handle_of c object) files.holds)

-- whether the row has the export order
abbrev pub has_export_order : ℕ → FileHandle → Bool
has_export_order export_order row = option_map_or (λ p. p == export_order) row.export_order false

-- the client's handles for the object that have this export order
abbrev pub handles_at : FileLists → ℕ → ℕ → ℕ → List ℕ
handles_at files c object export_order =
    map (λ row. row.handle) (filter (has_export_order export_order) (filter (is_handle_of c object) files.holds))

-- the client's handle for the object with the least export order, and at a tie the least handle
abbrev pub prime_handle : FileLists → ℕ → ℕ → Option ℕ
prime_handle files c object =
    option_and_then (λ export_order. least_of (handles_at files c object export_order))
    (least_of (export_orders_of files c object))

-- an export order that a handle has stays
abbrev pub given_export_order : ℕ → FileHandle → FileHandle
given_export_order export_order row = record row { export_order = option_or row.export_order (Some export_order) }

-- the lists where the client's handle has this export order, unless it had one already
abbrev pub with_export_order : FileLists → ℕ → ℕ → ℕ → FileLists
with_export_order files c h export_order =
    record files
    { holds = map (λ row. if is_handle c h row then given_export_order export_order row else row) files.holds }

-- what is so of a hold: its client is open, and its numbers are in their ranges
pub record IsHandleOf (files : FileLists) (row : FileHandle) : Type 0 where
  pub client_open : is_open_client files row.client ≡ true
  pub handle_low : 1 ≤ row.handle
  pub handle_high : row.handle ≤ files.last_handle

-- what is so of the lists: no client and no handle of a client occurs twice, since the rows are in order
pub record AreFiles (files : FileLists) : Type 0 where
  pub last_low : 1 ≤ files.last_handle
  pub last_high : files.last_handle ≤ 4294967295
  pub limit_high : files.limit ≤ 4294967295
  pub clients_rise : InOrder client_before files.clients
  pub clients_fit : AllByRecursion (λ row. row.client ≤ 4294967295) files.clients
  pub holds_rise : InOrder handle_before files.holds
  pub holds_are : AllByRecursion (IsHandleOf files) files.holds

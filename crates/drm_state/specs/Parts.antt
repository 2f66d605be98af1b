-- The rows that the parts of the device represent (own).
use Rattle.std.specs.Prelude.{◌≡◌, ℕ, Bool, false, not, ◌&&◌, List, ◌++◌, Option, None, Some, find, filter, map, unwrap_or, if◌then◌else◌}
use Rattle.std.specs.List.{filter_map}
use Rattle.std.specs.Option.{option_map, option_map_or, option_and_then}
use Rattle.drm_gem.specs.declared.object.Object.{Object}
use Rattle.drm_gem.specs.Objects.{is_key}
use Rattle.drm_files.specs.declared.rows.ClientCapability.{ClientCapability}
use Rattle.drm_files.specs.declared.rows.ClientCapability.TheVariants.{UniversalPlanes}
use Rattle.drm_files.specs.declared.rows.FileFlags.{FileFlags}
use Rattle.drm_files.specs.declared.rows.FileClient.{FileClient}
use Rattle.drm_files.specs.declared.rows.FileHandle.{FileHandle}
use Rattle.drm_files.specs.Files as files
use Rattle.drm_share.specs.declared.rows.SharedName.{SharedName}
use Rattle.drm_share.specs.declared.rows.SharedToken.{SharedToken}
use Rattle.drm_share.specs.Tokens.{TokenList, is_exported_by}
use Rattle.drm_model.specs.ClientCapabilities.{ClientCapabilities, cap_universal_planes}
use Rattle.drm_model.specs.Rows.{ClientRow, MasterRow, MagicRow, HandleRow, ObjectRow, NameRow, TokenRow, GrantRow, FramebufferRow, ShownRow}
use Rattle.drm_modes.specs.declared.rows.Framebuffer.{Framebuffer}
use Rattle.drm_modes.specs.declared.rows.Shown.{Shown}
use Rattle.drm_modes.specs.Modes.{ModeSet, shown_rows, is_made_by, has_framebuffer}
use Rattle.drm_masters.specs.declared.rows.Magic.{Magic}
use Rattle.drm_masters.specs.declared.rows.Master.{Master}
use Rattle.drm_masters.specs.declared.rows.Member.{Member}
use Rattle.drm_masters.specs.Masters.{MasterSet, is_client, member_of, is_option, lessor_of, swept}
use Rattle.drm_index_array.specs.Chains.{is_under}
use Rattle.drm_masters.specs.Calls.{kept_as}
use Rattle.drm_leases.specs.declared.rows.Grant.{Grant}
use Rattle.drm_leases.specs.Tokens.{LeaseToken}
use Rattle.drm_leases.specs.Leases.{LeaseSet, Lending, token_of}
use Rattle.drm_state.specs.declared.state.State.{State}

-- the number of a capability (drm-uapi)
abbrev pub capability_number : ClientCapability → ℕ
capability_number UniversalPlanes = cap_universal_planes

-- the capabilities of a client with these flags
abbrev pub capabilities_of : FileFlags → ClientCapabilities
capabilities_of flags = record { universal_planes = flags.universal }

-- a render client does not belong to masters
abbrev pub client_row_by : FileClient → Option Member → ClientRow
client_row_by f m = record {
  client = f.client;
  render = f.flags.render;
  root = f.flags.root;
  authenticated = f.flags.authenticated;
  once_master = option_map_or (λ (x : Member). x.once_master) m false;
  is_master = option_map_or (λ (x : Member). x.is_master) m false;
  master = option_map (λ (x : Member). x.master) m;
  capabilities = capabilities_of f.flags;
}

-- the row of an open client
abbrev pub client_row_of : List Member → FileClient → ClientRow
client_row_of members f = client_row_by f (member_of members f.client)

-- a lessee that no client redeemed has an open lease token
abbrev pub master_row_of : List LeaseToken → Master → MasterRow
master_row_of tokens x =
    record
    { master = x.step_number; lessor = x.lessor; lessee_id = x.lessee_id; lease_token = token_of tokens x.step_number }

-- the row of a grant
abbrev pub grant_row_of : Grant → GrantRow
grant_row_of g = record { master = g.master; mode_object = g.mode_object }

-- a client's magic, if it has one
abbrev pub magic_row_of : Member → Option MagicRow
magic_row_of x =
    option_map (λ (g : Magic). record { master = x.master; number = g.number; client = x.client; spent = g.spent })
    x.magic

-- the number of the object of a key; 0 if none has it
abbrev pub step_number_at : List Object → ℕ → ℕ
step_number_at objects key = option_map_or (λ (x : Object). x.step_number) (find (is_key key) objects) 0

-- the row of a handle, with the step number of its object
abbrev pub handle_row_by : FileHandle → ℕ → HandleRow
handle_row_by x number = record { client = x.client; handle = x.handle; object = number; export_order = x.export_order }

-- a handle names its object by a key, and its row by the object's number
abbrev pub handle_row_of : List Object → FileHandle → HandleRow
handle_row_of objects x = handle_row_by x (step_number_at objects x.object)

-- the row of an object
abbrev pub object_row_of : Object → ObjectRow
object_row_of x = record { object = x.step_number; size = x.size; stamp = x.stamp }

-- the row of a name, with the step number of its object
abbrev pub name_row_by : SharedName → ℕ → NameRow
name_row_by x number = record { name = x.name; object = number }

-- so do a name, a token and a framebuffer
abbrev pub name_row_of : List Object → SharedName → NameRow
name_row_of objects x = name_row_by x (step_number_at objects x.object)

-- the row of a token, with the step number of its object
abbrev pub token_row_by : SharedToken → ℕ → TokenRow
token_row_by x number = record { token = x.token; client = x.client; object = number }

-- the row of a token
abbrev pub token_row_of : List Object → SharedToken → TokenRow
token_row_of objects x = token_row_by x (step_number_at objects x.object)

-- the row of a framebuffer, with the step number of its object
abbrev pub framebuffer_row_by : Framebuffer → ℕ → FramebufferRow
framebuffer_row_by x number = record {
  framebuffer = x.framebuffer;
  client = x.client;
  object = number;
  width = x.shape.width;
  height = x.shape.height;
  pitch = x.shape.pitch;
  bpp = x.shape.bpp;
}

-- the row of a framebuffer
abbrev pub framebuffer_row_of : List Object → Framebuffer → FramebufferRow
framebuffer_row_of objects x = framebuffer_row_by x (step_number_at objects x.object)

-- the row of a CRTC or plane that shows a framebuffer
abbrev pub shown_row_of : Shown → ShownRow
shown_row_of x = record { engine = x.engine; framebuffer = x.framebuffer }

-- the rows of clients
abbrev pub clients_of : State → List ClientRow
clients_of s = map (client_row_of s.masters.members) s.files.clients

-- the rows of masters
abbrev pub masters_of : State → List MasterRow
masters_of s = map (master_row_of s.leases.tokens) s.masters.masters

-- the rows of grants
abbrev pub grants_of : State → List GrantRow
grants_of s = map grant_row_of s.leases.grants

-- the rows of magics
abbrev pub magics_of : State → List MagicRow
magics_of s = filter_map magic_row_of s.masters.members

-- the rows of handles
abbrev pub holds_of : State → List HandleRow
holds_of s = map (handle_row_of s.objects.objects) s.files.holds

-- the rows of objects
abbrev pub objects_of : State → List ObjectRow
objects_of s = map object_row_of s.objects.objects

-- the rows of names
abbrev pub names_of : State → List NameRow
names_of s = map (name_row_of s.objects.objects) s.names.names

-- the rows of tokens
abbrev pub tokens_of : State → List TokenRow
tokens_of s = map (token_row_of s.objects.objects) s.tokens.tokens

-- the rows of framebuffers
abbrev pub framebuffers_of : State → List FramebufferRow
framebuffers_of s = map (framebuffer_row_of s.objects.objects) s.modes.framebuffers

-- the rows of CRTCs and planes that show something
abbrev pub shown_of : State → List ShownRow
shown_of s = map shown_row_of (shown_rows s.modes)

-- the last token given; 0 before the first
abbrev pub last_token_of : State → ℕ
last_token_of s = unwrap_or s.tokens.last_given 0

-- the last lease token given; 0 before the first
abbrev pub last_lease_token_of : State → ℕ
last_lease_token_of s = unwrap_or s.leases.last_given 0

-- the keys that tokens name
abbrev pub token_keys : List SharedToken → List ℕ
token_keys tokens = map (λ (x : SharedToken). x.object) tokens

-- the tokens that the client did not export
abbrev pub without_tokens_of : ℕ → TokenList → TokenList
without_tokens_of c list = record list { tokens = filter (λ (x : SharedToken). not (is_exported_by c x)) list.tokens }

-- the keys that framebuffers name
abbrev pub framebuffer_keys : List Framebuffer → List ℕ
framebuffer_keys framebuffers = map (λ (x : Framebuffer). x.object) framebuffers

-- the keys that tokens and framebuffers name
abbrev pub referring : List SharedToken → List Framebuffer → List ℕ
referring tokens framebuffers = token_keys tokens ++ framebuffer_keys framebuffers

-- the keys that tokens and framebuffers refer to
abbrev pub referring_keys : State → List ℕ
referring_keys s = referring s.tokens.tokens s.modes.framebuffers

-- now the framebuffers of a client are removed, and what showed one of them is dark
pub record LosesFramebuffersOf (c : ℕ) (old now : ModeSet) : Type 0 where
  pub topology : now.topology ≡ old.topology
  pub last : now.last ≡ old.last
  pub framebuffers : now.framebuffers ≡ filter (λ (x : Framebuffer). not (is_made_by c x)) old.framebuffers
  pub shown : shown_rows now ≡ filter (λ (x : Shown). has_framebuffer now x.framebuffer) (shown_rows old)

-- the keys that handles name
abbrev pub keys_of : List FileHandle → List ℕ
keys_of holds = map (λ (x : FileHandle). x.object) holds

-- the device's master without a client: none where it is the client's own
abbrev pub device_without : MasterSet → ℕ → Option ℕ
device_without v c =
    option_map_or (λ (x : Member). if x.is_master && is_option x.master v.device_master then None else v.device_master)
    (member_of v.members c) v.device_master

-- the own master of a client that is one
abbrev pub own_master : Option Member → Option ℕ
own_master m = option_and_then (λ (x : Member). if x.is_master then Some x.master else None) m

-- whether it is that master, or one below it
abbrev pub is_below : Option ℕ → List Master → ℕ → Bool
is_below None ms m = false
is_below (Some top) ms m = is_under (lessor_of ms) top m

-- those masters are kept no more
abbrev pub released : (ℕ → Bool) → List Master → List Master
released below ms = map (λ (x : Master). if below x.step_number then kept_as false x else x) ms

-- their leases and open lease tokens are removed
abbrev pub ended : (ℕ → Bool) → LeaseSet → LeaseSet
ended below l = record l {
  tokens = filter (λ (row : LeaseToken). not (below row.master)) l.tokens;
  grants = filter (λ (g : Grant). not (below g.master)) l.grants;
  lendings = filter (λ (x : Lending). not (below x.lessee)) l.lendings;
}

-- the masters that end with a client: its own, if it is one, and those below it
abbrev pub ends_with : MasterSet → ℕ → ℕ → Bool
ends_with v c m = is_below (own_master (member_of v.members c)) v.masters m

-- The masters without a client. Its magic is removed with it, and those that end with it are kept no more. Those are
-- freed that no client names any more and that are not kept.
abbrev pub without_its_master : ℕ → MasterSet → MasterSet
without_its_master c v = swept (record v {
  members = filter (λ (x : Member). not (is_client c x)) v.members;
  masters = released (ends_with v c) v.masters;
  device_master = device_without v c;
})

-- the leases without a client
abbrev pub without_its_leases : ℕ → MasterSet → LeaseSet → LeaseSet
without_its_leases c v l = ended (ends_with v c) l

-- whether an open client is root
abbrev pub root_of : State → ℕ → Bool
root_of s c = option_map_or (λ (f : FileClient). f.flags.root) (find (files.is_client c) s.files.clients) false

-- The table of calls: the number, name, word, flags, fields and family of each (drm-uapi). The numbers 0x40 to 0x45,
-- the words and the families are own.
use Rattle.std.specs.Prelude.{◌≡◌, ℕ, ◌==◌, Option, Some, None, ◌↔◌, List, [], ◌∷◌, find, map, length, codes}
use Rattle.std.specs.Option.{option_map, option_map_or, option_or}
use Rattle.std.specs.Str.{bytes_eq}
use Rattle.drm_table.specs.declared.fields.Width.TheVariants.{U32, U64}
use Rattle.drm_table.specs.declared.fields.Field.{Field}
use Rattle.drm_table.specs.declared.fields.Field.TheVariants as fields
use Rattle.drm_table.specs.declared.flags.RowFlags.{RowFlags}
use Rattle.drm_table.specs.declared.calls.CallKind.{CallKind}
use Rattle.drm_table.specs.declared.calls.CallKind.TheVariants as kinds
use Rattle.drm_table.specs.declared.calls.Call.{Call}
use Rattle.drm_table.specs.declared.calls.Call.TheVariants as calls
use Rattle.drm_table.specs.declared.rows.Family.{Family}
use Rattle.drm_table.specs.declared.rows.Family.TheVariants.{Device, Masters, Buffers, Sharing, Modes, Framebuffers, Leases}
use Rattle.drm_table.specs.declared.rows.Row.{Row}
use Rattle.drm_table.specs.Audits as audits
use Rattle.drm_table.specs.Permit.{root_only, auth, master, render_allow, no_flags}
use Rattle.drm_table.specs.Fields.{Layout, ids_in, layout_of, width_of, widths_in}
use Rattle.drm_table.specs.Fields.Layout.{numbers, ids}

-- a row of the table
pub record TableRow : Type 0 where
  pub number : ℕ
  pub name : List ℕ
  pub word : List ℕ
  pub flags : RowFlags
  pub layout : Layout
  pub family : Family

-- a row with these columns
abbrev pub table_row : ℕ → List ℕ → List ℕ → RowFlags → Layout → Family → TableRow
table_row number name word flags layout family =
    record { number = number; name = name; word = word; flags = flags; layout = layout; family = family }

-- the columns of a row
abbrev pub columns : Row → TableRow
columns row = table_row row.number row.name.now row.word.now row.flags (layout_of row.layout) row.family

-- ---- the table: a line for each call

-- the row of each kind
unfoldable pub kind_row : CallKind → TableRow
kind_row kinds.Version = table_row 0x00 (codes "VERSION") (codes "version") render_allow (numbers []) Device
kind_row kinds.GetMagic = table_row 0x02 (codes "GET_MAGIC") (codes "get_magic") no_flags (numbers []) Masters
kind_row kinds.GemClose = table_row 0x09 (codes "GEM_CLOSE") (codes "gem_close") render_allow (numbers (U32 ∷ [])) Buffers
kind_row kinds.GemFlink = table_row 0x0A (codes "GEM_FLINK") (codes "gem_flink") auth (numbers (U32 ∷ [])) Sharing
kind_row kinds.GemOpen = table_row 0x0B (codes "GEM_OPEN") (codes "gem_open") auth (numbers (U32 ∷ [])) Sharing
kind_row kinds.GetCap = table_row 0x0C (codes "GET_CAP") (codes "get_cap") render_allow (numbers (U64 ∷ [])) Device
kind_row kinds.SetClientCap = table_row 0x0D (codes "SET_CLIENT_CAP") (codes "set_client_cap") no_flags (numbers (U64 ∷ U64 ∷ [])) Device
kind_row kinds.AuthMagic = table_row 0x11 (codes "AUTH_MAGIC") (codes "auth_magic") master (numbers (U32 ∷ [])) Masters
kind_row kinds.SetMaster = table_row 0x1E (codes "SET_MASTER") (codes "set_master") no_flags (numbers []) Masters
kind_row kinds.DropMaster = table_row 0x1F (codes "DROP_MASTER") (codes "drop_master") no_flags (numbers []) Masters
kind_row kinds.PrimeHandleToFd = table_row 0x2D (codes "PRIME_HANDLE_TO_FD") (codes "prime_export") render_allow (numbers (U32 ∷ [])) Sharing
kind_row kinds.PrimeFdToHandle = table_row 0x2E (codes "PRIME_FD_TO_HANDLE") (codes "prime_import") render_allow (numbers (U32 ∷ [])) Sharing
kind_row kinds.BufCreate = table_row 0x40 (codes "BUF_CREATE") (codes "buf_create") render_allow (numbers (U64 ∷ [])) Buffers
kind_row kinds.StampWrite = table_row 0x41 (codes "STAMP_WRITE") (codes "stamp_write") render_allow (numbers (U32 ∷ U64 ∷ [])) Buffers
kind_row kinds.StampRead = table_row 0x42 (codes "STAMP_READ") (codes "stamp_read") render_allow (numbers (U32 ∷ [])) Buffers
kind_row kinds.TokenClose = table_row 0x43 (codes "TOKEN_CLOSE") (codes "token_close") render_allow (numbers (U32 ∷ [])) Sharing
kind_row kinds.ListHandles = table_row 0x44 (codes "LIST_HANDLES") (codes "list_handles") render_allow (numbers (U32 ∷ [])) Buffers
kind_row kinds.Audit = table_row 0x45 (codes "AUDIT") (codes "audit") root_only (numbers (U32 ∷ U32 ∷ [])) Device
kind_row kinds.GetResources = table_row 0xA0 (codes "MODE_GETRESOURCES") (codes "getresources") no_flags (numbers []) Modes
kind_row kinds.GetCrtc = table_row 0xA1 (codes "MODE_GETCRTC") (codes "getcrtc") no_flags (numbers (U32 ∷ [])) Modes
kind_row kinds.SetCrtc = table_row 0xA2 (codes "MODE_SETCRTC") (codes "setcrtc") master (numbers (U32 ∷ U32 ∷ U32 ∷ [])) Modes
kind_row kinds.GetEncoder = table_row 0xA6 (codes "MODE_GETENCODER") (codes "getencoder") no_flags (numbers (U32 ∷ [])) Modes
kind_row kinds.GetConnector = table_row 0xA7 (codes "MODE_GETCONNECTOR") (codes "getconnector") no_flags (numbers (U32 ∷ [])) Modes
kind_row kinds.GetFb = table_row 0xAD (codes "MODE_GETFB") (codes "getfb") no_flags (numbers (U32 ∷ [])) Framebuffers
kind_row kinds.AddFb = table_row 0xAE (codes "MODE_ADDFB") (codes "addfb") no_flags (numbers (U32 ∷ U32 ∷ U32 ∷ U32 ∷ U32 ∷ [])) Framebuffers
kind_row kinds.RmFb = table_row 0xAF (codes "MODE_RMFB") (codes "rmfb") no_flags (numbers (U32 ∷ [])) Framebuffers
kind_row kinds.CreateDumb = table_row 0xB2 (codes "MODE_CREATE_DUMB") (codes "create_dumb") no_flags (numbers (U32 ∷ U32 ∷ U32 ∷ [])) Buffers
kind_row kinds.DestroyDumb = table_row 0xB4 (codes "MODE_DESTROY_DUMB") (codes "destroy_dumb") no_flags (numbers (U32 ∷ [])) Buffers
kind_row kinds.GetPlaneResources = table_row 0xB5 (codes "MODE_GETPLANERESOURCES") (codes "getplaneresources") no_flags (numbers []) Modes
kind_row kinds.GetPlane = table_row 0xB6 (codes "MODE_GETPLANE") (codes "getplane") no_flags (numbers (U32 ∷ [])) Modes
kind_row kinds.SetPlane = table_row 0xB7 (codes "MODE_SETPLANE") (codes "setplane") master (numbers (U32 ∷ U32 ∷ U32 ∷ [])) Modes
kind_row kinds.CreateLease = table_row 0xC6 (codes "MODE_CREATE_LEASE") (codes "create_lease") master ids Leases
kind_row kinds.ListLessees = table_row 0xC7 (codes "MODE_LIST_LESSEES") (codes "list_lessees") master (numbers []) Leases
kind_row kinds.GetLease = table_row 0xC8 (codes "MODE_GET_LEASE") (codes "get_lease") master (numbers []) Leases
kind_row kinds.RevokeLease = table_row 0xC9 (codes "MODE_REVOKE_LEASE") (codes "revoke_lease") master (numbers (U32 ∷ [])) Leases

-- all kinds, in rising order of their numbers
abbrev pub all_kinds : List CallKind
all_kinds =
    kinds.Version
    ∷ kinds.GetMagic
    ∷ kinds.GemClose
    ∷ kinds.GemFlink
    ∷ kinds.GemOpen
    ∷ kinds.GetCap
    ∷ kinds.SetClientCap
    ∷ kinds.AuthMagic
    ∷ kinds.SetMaster
    ∷ kinds.DropMaster
    ∷ kinds.PrimeHandleToFd
    ∷ kinds.PrimeFdToHandle
    ∷ kinds.BufCreate
    ∷ kinds.StampWrite
    ∷ kinds.StampRead
    ∷ kinds.TokenClose
    ∷ kinds.ListHandles
    ∷ kinds.Audit
    ∷ kinds.GetResources
    ∷ kinds.GetCrtc
    ∷ kinds.SetCrtc
    ∷ kinds.GetEncoder
    ∷ kinds.GetConnector
    ∷ kinds.GetFb
    ∷ kinds.AddFb
    ∷ kinds.RmFb
    ∷ kinds.CreateDumb
    ∷ kinds.DestroyDumb
    ∷ kinds.GetPlaneResources
    ∷ kinds.GetPlane
    ∷ kinds.SetPlane
    ∷ kinds.CreateLease
    ∷ kinds.ListLessees
    ∷ kinds.GetLease
    ∷ kinds.RevokeLease
    ∷ []

-- ---- the fields of each call, family by family: its row with its fields in order, and the call of a row and these fields

-- buffers, their handles and their stamps (drm-uapi; BUF_CREATE, the stamps and LIST_HANDLES are own)
abbrev pub buffer_row : Call → Option (CallKind × List Field)
buffer_row (calls.GemClose handle) = Some (kinds.GemClose, fields.U32 handle ∷ [])
buffer_row (calls.BufCreate size) = Some (kinds.BufCreate, fields.U64 size ∷ [])
buffer_row (calls.StampWrite handle stamp) = Some (kinds.StampWrite, fields.U32 handle ∷ fields.U64 stamp ∷ [])
buffer_row (calls.StampRead handle) = Some (kinds.StampRead, fields.U32 handle ∷ [])
buffer_row (calls.ListHandles from) = Some (kinds.ListHandles, fields.U32 from ∷ [])
buffer_row (calls.CreateDumb width height bpp) =
    Some (kinds.CreateDumb, fields.U32 width ∷ fields.U32 height ∷ fields.U32 bpp ∷ [])
buffer_row (calls.DestroyDumb handle) = Some (kinds.DestroyDumb, fields.U32 handle ∷ [])
buffer_row _ = None

-- the call of buffers with a row and fields
abbrev pub buffer_call : CallKind → List Field → Option Call
buffer_call kinds.GemClose (fields.U32 handle ∷ []) = Some (calls.GemClose handle)
buffer_call kinds.BufCreate (fields.U64 size ∷ []) = Some (calls.BufCreate size)
buffer_call kinds.StampWrite (fields.U32 handle ∷ fields.U64 stamp ∷ []) = Some (calls.StampWrite handle stamp)
buffer_call kinds.StampRead (fields.U32 handle ∷ []) = Some (calls.StampRead handle)
buffer_call kinds.ListHandles (fields.U32 from ∷ []) = Some (calls.ListHandles from)
buffer_call kinds.CreateDumb (fields.U32 width ∷ fields.U32 height ∷ fields.U32 bpp ∷ []) =
    Some (calls.CreateDumb width height bpp)
buffer_call kinds.DestroyDumb (fields.U32 handle ∷ []) = Some (calls.DestroyDumb handle)
buffer_call _ _ = None

-- names and tokens (drm-gem(7), flink; drm-mm, PRIME; tokens and TOKEN_CLOSE are own)
abbrev pub share_row : Call → Option (CallKind × List Field)
share_row (calls.GemFlink handle) = Some (kinds.GemFlink, fields.U32 handle ∷ [])
share_row (calls.GemOpen name) = Some (kinds.GemOpen, fields.U32 name ∷ [])
share_row (calls.PrimeHandleToFd handle) = Some (kinds.PrimeHandleToFd, fields.U32 handle ∷ [])
share_row (calls.PrimeFdToHandle token) = Some (kinds.PrimeFdToHandle, fields.U32 token ∷ [])
share_row (calls.TokenClose token) = Some (kinds.TokenClose, fields.U32 token ∷ [])
share_row _ = None

-- the call that shares objects with a row and fields
abbrev pub share_call : CallKind → List Field → Option Call
share_call kinds.GemFlink (fields.U32 handle ∷ []) = Some (calls.GemFlink handle)
share_call kinds.GemOpen (fields.U32 name ∷ []) = Some (calls.GemOpen name)
share_call kinds.PrimeHandleToFd (fields.U32 handle ∷ []) = Some (calls.PrimeHandleToFd handle)
share_call kinds.PrimeFdToHandle (fields.U32 token ∷ []) = Some (calls.PrimeFdToHandle token)
share_call kinds.TokenClose (fields.U32 token ∷ []) = Some (calls.TokenClose token)
share_call _ _ = None

-- masters and magics (drm(7); drm-uapi, primary nodes, DRM master and authentication)
abbrev pub master_row : Call → Option (CallKind × List Field)
master_row calls.GetMagic = Some (kinds.GetMagic, [])
master_row (calls.AuthMagic magic) = Some (kinds.AuthMagic, fields.U32 magic ∷ [])
master_row calls.SetMaster = Some (kinds.SetMaster, [])
master_row calls.DropMaster = Some (kinds.DropMaster, [])
master_row _ = None

-- the call of masters and magics with a row and fields
abbrev pub master_call : CallKind → List Field → Option Call
master_call kinds.GetMagic [] = Some calls.GetMagic
master_call kinds.AuthMagic (fields.U32 magic ∷ []) = Some (calls.AuthMagic magic)
master_call kinds.SetMaster [] = Some calls.SetMaster
master_call kinds.DropMaster [] = Some calls.DropMaster
master_call _ _ = None

-- CRTCs, encoders, connectors and planes (drm-uapi, kernel mode setting)
abbrev pub mode_row : Call → Option (CallKind × List Field)
mode_row calls.GetResources = Some (kinds.GetResources, [])
mode_row (calls.GetCrtc crtc) = Some (kinds.GetCrtc, fields.U32 crtc ∷ [])
mode_row (calls.SetCrtc crtc framebuffer connector) =
    Some (kinds.SetCrtc, fields.U32 crtc ∷ fields.U32 framebuffer ∷ fields.U32 connector ∷ [])
mode_row (calls.GetEncoder encoder) = Some (kinds.GetEncoder, fields.U32 encoder ∷ [])
mode_row (calls.GetConnector connector) = Some (kinds.GetConnector, fields.U32 connector ∷ [])
mode_row calls.GetPlaneResources = Some (kinds.GetPlaneResources, [])
mode_row (calls.GetPlane plane) = Some (kinds.GetPlane, fields.U32 plane ∷ [])
mode_row (calls.SetPlane plane crtc framebuffer) =
    Some (kinds.SetPlane, fields.U32 plane ∷ fields.U32 crtc ∷ fields.U32 framebuffer ∷ [])
mode_row _ = None

-- the call of mode objects with a row and fields
abbrev pub mode_call : CallKind → List Field → Option Call
mode_call kinds.GetResources [] = Some calls.GetResources
mode_call kinds.GetCrtc (fields.U32 crtc ∷ []) = Some (calls.GetCrtc crtc)
mode_call kinds.SetCrtc (fields.U32 crtc ∷ fields.U32 framebuffer ∷ fields.U32 connector ∷ []) =
    Some (calls.SetCrtc crtc framebuffer connector)
mode_call kinds.GetEncoder (fields.U32 encoder ∷ []) = Some (calls.GetEncoder encoder)
mode_call kinds.GetConnector (fields.U32 connector ∷ []) = Some (calls.GetConnector connector)
mode_call kinds.GetPlaneResources [] = Some calls.GetPlaneResources
mode_call kinds.GetPlane (fields.U32 plane ∷ []) = Some (calls.GetPlane plane)
mode_call kinds.SetPlane (fields.U32 plane ∷ fields.U32 crtc ∷ fields.U32 framebuffer ∷ []) =
    Some (calls.SetPlane plane crtc framebuffer)
mode_call _ _ = None

-- framebuffers (drm-uapi, kernel mode setting)
abbrev pub framebuffer_row : Call → Option (CallKind × List Field)
framebuffer_row (calls.GetFb framebuffer) = Some (kinds.GetFb, fields.U32 framebuffer ∷ [])
framebuffer_row (calls.AddFb width height pitch bpp handle) =
    Some
    (kinds.AddFb, fields.U32 width ∷ fields.U32 height ∷ fields.U32 pitch ∷ fields.U32 bpp ∷ fields.U32 handle ∷ [])
framebuffer_row (calls.RmFb framebuffer) = Some (kinds.RmFb, fields.U32 framebuffer ∷ [])
framebuffer_row _ = None

-- the call of framebuffers with a row and fields
abbrev pub framebuffer_call : CallKind → List Field → Option Call
framebuffer_call kinds.GetFb (fields.U32 framebuffer ∷ []) = Some (calls.GetFb framebuffer)
framebuffer_call kinds.AddFb (fields.U32 width ∷ fields.U32 height ∷ fields.U32 pitch ∷ fields.U32 bpp ∷ fields.U32 handle ∷ []) =
    Some (calls.AddFb width height pitch bpp handle)
framebuffer_call kinds.RmFb (fields.U32 framebuffer ∷ []) = Some (calls.RmFb framebuffer)
framebuffer_call _ _ = None

-- leases (drm-uapi): CREATE_LEASE has a list of ids, as many as it names
abbrev pub lease_row : Call → Option (CallKind × List Field)
lease_row (calls.CreateLease named) = Some (kinds.CreateLease, map fields.U32 named)
lease_row calls.ListLessees = Some (kinds.ListLessees, [])
lease_row calls.GetLease = Some (kinds.GetLease, [])
lease_row (calls.RevokeLease lessee) = Some (kinds.RevokeLease, fields.U32 lessee ∷ [])
lease_row _ = None

-- the call of leases with a row and fields
abbrev pub lease_call : CallKind → List Field → Option Call
lease_call kinds.CreateLease fs = option_map calls.CreateLease (ids_in fs)
lease_call kinds.ListLessees [] = Some calls.ListLessees
lease_call kinds.GetLease [] = Some calls.GetLease
lease_call kinds.RevokeLease (fields.U32 lessee ∷ []) = Some (calls.RevokeLease lessee)
lease_call _ _ = None

-- the device: its version, its capabilities and its audit (drm-uapi; AUDIT is own)
abbrev pub device_row : Call → Option (CallKind × List Field)
device_row calls.Version = Some (kinds.Version, [])
device_row (calls.GetCap cap) = Some (kinds.GetCap, fields.U64 cap ∷ [])
device_row (calls.SetClientCap cap value) = Some (kinds.SetClientCap, fields.U64 cap ∷ fields.U64 value ∷ [])
device_row (calls.Audit kind from) = Some (kinds.Audit, fields.U32 (audits.kind_number kind) ∷ fields.U32 from ∷ [])
device_row _ = None

-- the call of the device with a row and fields
abbrev pub device_call : CallKind → List Field → Option Call
device_call kinds.Version [] = Some calls.Version
device_call kinds.GetCap (fields.U64 cap ∷ []) = Some (calls.GetCap cap)
device_call kinds.SetClientCap (fields.U64 cap ∷ fields.U64 value ∷ []) = Some (calls.SetClientCap cap value)
device_call kinds.Audit (fields.U32 number ∷ fields.U32 from ∷ []) =
    option_map (λ kind. calls.Audit kind from) (audits.kind_of number)
device_call _ _ = None

-- ---- all families

-- the row of each call and its fields in order, on the wire and in a script alike; none for a call without a row
unfoldable pub call_row : Call → Option (CallKind × List Field)
call_row call =
    option_or
    (option_or (option_or (option_or (option_or (option_or (buffer_row call) (share_row call)) (master_row call)) (mode_row call)) (framebuffer_row call)) (lease_row call))
    (device_row call)

-- ---- what follows from it

-- the number of a kind
abbrev pub kind_number : CallKind → ℕ
kind_number kind = (kind_row kind).number

-- the word of a kind
abbrev pub kind_word : CallKind → List ℕ
kind_word kind = (kind_row kind).word

-- the layout of a kind's fields
abbrev pub kind_layout : CallKind → Layout
kind_layout kind = (kind_row kind).layout

-- the family of a kind
abbrev pub kind_family : CallKind → Family
kind_family kind = (kind_row kind).family

-- the call of a family, of a row and these fields
abbrev pub family_call : Family → CallKind → List Field → Option Call
family_call Device kind fs = device_call kind fs
family_call Masters kind fs = master_call kind fs
family_call Buffers kind fs = buffer_call kind fs
family_call Sharing kind fs = share_call kind fs
family_call Modes kind fs = mode_call kind fs
family_call Framebuffers kind fs = framebuffer_call kind fs
family_call Leases kind fs = lease_call kind fs

-- the call with a row and fields, if there is one
unfoldable pub call_with : CallKind → List Field → Option Call
call_with kind fs = family_call (kind_family kind) kind fs

-- the kind of a number, if it has a row
unfoldable pub call_kind_of : ℕ → Option CallKind
call_kind_of number = find (λ kind. kind_number kind == number) all_kinds

-- the kind of a script's word, if it names a call
unfoldable pub call_kind_of_word : List ℕ → Option CallKind
call_kind_of_word word = find (λ kind. bytes_eq (kind_word kind) word) all_kinds

-- the row of a number, if it has one
unfoldable pub row_of : ℕ → Option TableRow
row_of number = option_map kind_row (call_kind_of number)

-- the number that the client sent, for a call without a row
abbrev pub asked_number : Call → ℕ
asked_number (calls.Unknown number) = number
asked_number (calls.BadLayout number) = number
asked_number _ = 0

-- the number of a call's row; for a call without a row, the number that the client sent
unfoldable pub call_number : Call → ℕ
call_number call =
    option_map_or (λ (row : CallKind × List Field). kind_number row.0) (call_row call) (asked_number call)

-- the flags of a call's row; none for a call without a row
unfoldable pub flags_of : Call → RowFlags
flags_of call = option_map_or (λ (row : TableRow). row.flags) (row_of (call_number call)) no_flags

-- the family of a call; none for a call without a row
unfoldable pub family_of : Call → Option Family
family_of call = option_map (λ (row : CallKind × List Field). kind_family row.0) (call_row call)

-- ---- laws

-- The call is the one with its row and its fields.
abbrev pub IsReadBack : Call → Option (CallKind × List Field) → Type 0
IsReadBack call None = Unit {0}
IsReadBack call (Some row) = call_with row.0 row.1 ≡ Some call

-- The call with a row and fields has this row and these fields.
abbrev pub AreFieldsOf : CallKind → List Field → Option Call → Type 0
AreFieldsOf kind fs None = Unit {0}
AreFieldsOf kind fs (Some call) = call_row call ≡ Some (kind, fs)

-- The fields of a call are of the widths of its row.
abbrev pub HasWidths : Option (CallKind × List Field) → Type 0
HasWidths None = Unit {0}
HasWidths (Some row) = map width_of row.1 ≡ widths_in (kind_layout row.0) (length row.1)

-- The row and the word of a kind are found, and the kind of the number or word is no other's.
abbrev pub IsFoundBy : {K : Type 0} → (K → Option CallKind) → (CallKind → K) → Type 0
IsFoundBy {K} find column = (kind : CallKind) (key : K) → (find key ≡ Some kind) ↔ (column kind ≡ key)

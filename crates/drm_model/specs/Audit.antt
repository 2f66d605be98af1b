-- AUDIT: the rows of a kind, in pages (all of it is this project's own).
use Rattle.std.specs.Prelude.{ℕ, ◌+◌, ◌==◌, nat_lt, nat_le, Bool, false, not, ◌&&◌, ◌||◌, List, [], ◌∷◌, length, Option, unwrap_or, map, filter, take, drop, if◌then◌else◌}
use Rattle.std.specs.Option.{option_map_or}
use Rattle.drm_index_array.specs.Orders.{sorted_by}
use Rattle.drm_table.specs.declared.answers.Answer.TheVariants as answers
use Rattle.drm_table.specs.declared.audits.AuditKind.{AuditKind}
use Rattle.drm_table.specs.declared.audits.AuditKind.TheVariants.{Client, Master, Object, Name, Token, Hold, Grant, Framebuffer, Shown, Device}
use Rattle.drm_table.specs.declared.audits.AuditRow.{AuditRow}
use Rattle.drm_model.specs.Meaning.{Meaning, nothing}
use Rattle.drm_model.specs.Rows.{Rows, ClientRow, MasterRow, MagicRow, HandleRow, ObjectRow, NameRow, TokenRow, GrantRow, FramebufferRow, ShownRow, magic_row}

-- a row with four numbers
abbrev pub audit_row : ℕ → ℕ → ℕ → ℕ → AuditRow
audit_row a b c d = record { a = a; b = b; c = c; d = d }

-- 0 represents none
abbrev pub or_zero : Option ℕ → ℕ
or_zero number = unwrap_or number 0

-- a number for a flag, or 0
abbrev pub flag : Bool → ℕ → ℕ
flag b n = if b then n else 0

-- 1 render, 2 root, 4 authenticated, 8 once a master, 16 a master, 32 its magic is spent, 64 universal planes are off
abbrev pub client_flags : Rows → ClientRow → ℕ
client_flags w row =
    flag row.render 1 + flag row.root 2 + flag row.authenticated 4 + flag row.once_master 8 + flag row.is_master 16
    + flag (option_map_or (λ (magic : MagicRow). magic.spent) (magic_row w row.client) false) 32
    + flag (not row.capabilities.universal_planes) 64

-- the row of a client: client, flags, master, magic
abbrev pub client_audit : Rows → ClientRow → AuditRow
client_audit w row =
    audit_row row.client (client_flags w row) (or_zero row.master)
    (option_map_or (λ (magic : MagicRow). magic.number) (magic_row w row.client) 0)

-- the number of handles of an object
abbrev pub handle_count : Rows → ℕ → ℕ
handle_count w o = length (filter (λ row. row.object == o) w.holds)

-- the number of tokens and framebuffers of an object
abbrev pub reference_count : Rows → ℕ → ℕ
reference_count w o =
    length (filter (λ row. row.object == o) w.tokens) + length (filter (λ row. row.object == o) w.framebuffers)

-- the row of a master: master, lessor, lessee id, open lease token
abbrev pub master_audit : MasterRow → AuditRow
master_audit row = audit_row row.master (or_zero row.lessor) row.lessee_id (or_zero row.lease_token)

-- the row of an object: object, size, handles, tokens and framebuffers
abbrev pub object_audit : Rows → ObjectRow → AuditRow
object_audit w row = audit_row row.object row.size (handle_count w row.object) (reference_count w row.object)

-- the row of a handle: client, handle, object, export order
abbrev pub handle_audit : HandleRow → AuditRow
handle_audit row = audit_row row.client row.handle row.object (or_zero row.export_order)

-- the row of a name: name, object
abbrev pub name_audit : NameRow → AuditRow
name_audit row = audit_row row.name row.object 0 0

-- the row of a token: token, exporter, object
abbrev pub token_audit : TokenRow → AuditRow
token_audit row = audit_row row.token row.client row.object 0

-- the row of a framebuffer: id, client, object
abbrev pub framebuffer_audit : FramebufferRow → AuditRow
framebuffer_audit row = audit_row row.framebuffer row.client row.object 0

-- the row of what is shown: CRTC or plane, framebuffer
abbrev pub shown_audit : ShownRow → AuditRow
shown_audit row = audit_row row.engine row.framebuffer 0 0

-- the row of a leased object: master, mode object
abbrev pub grant_audit : GrantRow → AuditRow
grant_audit row = audit_row row.master row.mode_object 0 0

-- the rows of a kind
unfoldable pub audit_rows : Rows → AuditKind → List AuditRow
audit_rows w Client = map (client_audit w) w.clients
audit_rows w Master = map master_audit w.masters
audit_rows w Object = map (object_audit w) w.objects
audit_rows w Name = map name_audit w.names
audit_rows w Token = map token_audit w.tokens
audit_rows w Hold = map handle_audit w.holds
audit_rows w Grant = map grant_audit w.grants
audit_rows w Framebuffer = map framebuffer_audit w.framebuffers
audit_rows w Shown = map shown_audit w.shown
audit_rows w Device = audit_row (or_zero w.device_master) w.last_token w.last_lease_token w.steps ∷ []

-- rows rise by a, then by b
abbrev pub is_before : AuditRow → AuditRow → Bool
is_before x y = nat_lt x.a y.a || ((x.a == y.a) && nat_le x.b y.b)

-- the rows in rising order
abbrev pub rising_rows : List AuditRow → List AuditRow
rising_rows rows = sorted_by is_before rows

-- at most 16 rows, after the first `from`
unfoldable pub audit_page : Rows → AuditKind → ℕ → List AuditRow
audit_page w kind from = take 16 (drop from (rising_rows (audit_rows w kind)))

-- AUDIT
abbrev pub audit : Rows → AuditKind → ℕ → Meaning
audit w kind from = record (nothing w) { answer = answers.Audit (audit_page w kind from) }

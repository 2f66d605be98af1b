-- The answers: the number of each, its word in the lines of a script, and its fields (own).
use Rattle.std.specs.Prelude.{◌≡◌, ℕ, Bool, true, false, ◌==◌, Option, Some, None, List, [], ◌∷◌, find, map, codes}
use Rattle.std.specs.Option.{option_or}
use Rattle.drm_table.specs.declared.answer_kinds.AnswerKind.{AnswerKind}
use Rattle.drm_table.specs.declared.answer_kinds.AnswerKind.TheVariants as kinds
use Rattle.drm_table.specs.declared.answer_kinds.Told.{Told as ToldValue}
use Rattle.drm_table.specs.declared.answer_kinds.Told.TheVariants as values
use Rattle.drm_table.specs.declared.answers.Answer.{Answer}
use Rattle.drm_table.specs.declared.answers.Answer.TheVariants as answers
use Rattle.drm_table.specs.declared.audits.AuditRow.{AuditRow}
use Rattle.drm_table.specs.declared.fields.Width.{Width}
use Rattle.drm_table.specs.declared.fields.Width.TheVariants.{U32, U64}
use Rattle.drm_table.specs.declared.fields.Field.{Field}
use Rattle.drm_table.specs.declared.fields.Field.TheVariants as fields
use Rattle.drm_table.specs.declared.rules.Rule.{Rule}
use Rattle.drm_table.specs.Fields.{width_of}

-- a row of the table: number, word and widths of the fields
pub record AnswerRow : Type 0 where
  pub number : ℕ
  pub word : List ℕ
  pub widths : List Width

-- a row with these columns
abbrev pub answer_row : ℕ → List ℕ → List Width → AnswerRow
answer_row number word widths = record { number = number; word = word; widths = widths }

-- ---- the table of the answers with fields of fixed number: a line for each

-- the row of each kind
unfoldable pub answer_kind_row : AnswerKind → AnswerRow
answer_kind_row kinds.Done = answer_row 0x1000 (codes "done") []
answer_kind_row kinds.Opened = answer_row 0x1001 (codes "client") (U32 ∷ [])
answer_kind_row kinds.Version = answer_row 0x1002 (codes "version") (U32 ∷ U32 ∷ U32 ∷ [])
answer_kind_row kinds.Number = answer_row 0x1003 (codes "number") (U64 ∷ [])
answer_kind_row kinds.Dumb = answer_row 0x1004 (codes "dumb") (U32 ∷ U32 ∷ U64 ∷ [])
answer_kind_row kinds.Buffer = answer_row 0x1005 (codes "buffer") (U32 ∷ U64 ∷ [])
answer_kind_row kinds.Plane = answer_row 0x1008 (codes "plane") (U32 ∷ U32 ∷ [])
answer_kind_row kinds.Framebuffer = answer_row 0x1009 (codes "framebuffer") (U32 ∷ U32 ∷ U32 ∷ U32 ∷ U32 ∷ [])
answer_kind_row kinds.Lease = answer_row 0x100A (codes "lease") (U32 ∷ U32 ∷ [])
answer_kind_row kinds.Closed = answer_row 0x100C (codes "closed") []

-- all kinds, rising by number
abbrev pub all_kinds : List AnswerKind
all_kinds =
    kinds.Done ∷ kinds.Opened ∷ kinds.Version ∷ kinds.Number ∷ kinds.Dumb ∷ kinds.Buffer ∷ kinds.Plane ∷
    kinds.Framebuffer ∷ kinds.Lease ∷ kinds.Closed ∷ []

-- the content of an answer: a fixed number of fields, the four lists of resources, a list of ids, rows of an audit, or
-- a denial
pub data Told : Type 0 where
  row : AnswerKind → List Field → Told
  resources : (crtcs connectors encoders framebuffers : List ℕ) → Told
  list : List ℕ → Told
  page : List AuditRow → Told
  denial : Rule → Told

-- the content of each answer, with its fields in order
unfoldable pub told : Answer → Told
told answers.Done = row kinds.Done []
told (answers.Opened client) = row kinds.Opened (fields.U32 client ∷ [])
told (answers.Version major minor patch) =
    row kinds.Version (fields.U32 major ∷ fields.U32 minor ∷ fields.U32 patch ∷ [])
told (answers.Number value) = row kinds.Number (fields.U64 value ∷ [])
told (answers.Dumb handle pitch size) = row kinds.Dumb (fields.U32 handle ∷ fields.U32 pitch ∷ fields.U64 size ∷ [])
told (answers.Buffer handle size) = row kinds.Buffer (fields.U32 handle ∷ fields.U64 size ∷ [])
told (answers.Resources crtcs connectors encoders framebuffers) = resources crtcs connectors encoders framebuffers
told (answers.Plane framebuffer mask) = row kinds.Plane (fields.U32 framebuffer ∷ fields.U32 mask ∷ [])
told (answers.Framebuffer width height pitch bpp handle) =
    row kinds.Framebuffer
    (fields.U32 width ∷ fields.U32 height ∷ fields.U32 pitch ∷ fields.U32 bpp ∷ fields.U32 handle ∷ [])
told (answers.Lease id token) = row kinds.Lease (fields.U32 id ∷ fields.U32 token ∷ [])
told (answers.List ids) = list ids
told (answers.Audit rows) = page rows
told answers.Closed = row kinds.Closed []
told (answers.Denied rule) = denial rule

-- whether an answer is one that only the calls of mode setting and of leases have
abbrev pub is_mode_answer : Answer → Bool
is_mode_answer (answers.Resources crtcs connectors encoders framebuffers) = true
is_mode_answer (answers.Plane framebuffer mask) = true
is_mode_answer (answers.Framebuffer width height pitch bpp handle) = true
is_mode_answer (answers.Lease id token) = true
is_mode_answer _ = false

-- the answer of a call of mode setting or of leases
abbrev pub mode_answer : AnswerKind → List Field → Option Answer
mode_answer kinds.Plane (fields.U32 framebuffer ∷ fields.U32 mask ∷ []) = Some (answers.Plane framebuffer mask)
mode_answer kinds.Framebuffer (fields.U32 width ∷ fields.U32 height ∷ fields.U32 pitch ∷ fields.U32 bpp ∷ fields.U32 handle ∷ []) =
    Some (answers.Framebuffer width height pitch bpp handle)
mode_answer kinds.Lease (fields.U32 id ∷ fields.U32 token ∷ []) = Some (answers.Lease id token)
mode_answer _ _ = None

-- the answer of any other call, of an opening or of a closing
abbrev pub plain_answer : AnswerKind → List Field → Option Answer
plain_answer kinds.Done [] = Some answers.Done
plain_answer kinds.Opened (fields.U32 client ∷ []) = Some (answers.Opened client)
plain_answer kinds.Version (fields.U32 major ∷ fields.U32 minor ∷ fields.U32 patch ∷ []) =
    Some (answers.Version major minor patch)
plain_answer kinds.Number (fields.U64 value ∷ []) = Some (answers.Number value)
plain_answer kinds.Dumb (fields.U32 handle ∷ fields.U32 pitch ∷ fields.U64 size ∷ []) =
    Some (answers.Dumb handle pitch size)
plain_answer kinds.Buffer (fields.U32 handle ∷ fields.U64 size ∷ []) = Some (answers.Buffer handle size)
plain_answer kinds.Closed [] = Some answers.Closed
plain_answer _ _ = None

-- the answer of a kind and these fields, if they are an answer's
unfoldable pub answer_with : AnswerKind → List Field → Option Answer
answer_with kind fs = option_or (plain_answer kind fs) (mode_answer kind fs)

-- ---- what follows from it

-- the number of a kind
abbrev pub answer_number : AnswerKind → ℕ
answer_number kind = (answer_kind_row kind).number

-- the word of a kind
abbrev pub answer_word : AnswerKind → List ℕ
answer_word kind = (answer_kind_row kind).word

-- the widths of a kind's fields
abbrev pub answer_widths : AnswerKind → List Width
answer_widths kind = (answer_kind_row kind).widths

-- the kind of a number, if it has a row
unfoldable pub answer_kind_of : ℕ → Option AnswerKind
answer_kind_of number = find (λ kind. answer_number kind == number) all_kinds

-- the content of an answer, from its parts
abbrev pub told_of : ToldValue → Told
told_of (values.Fields kind fs) = row kind fs
told_of (values.Resources crtcs connectors encoders framebuffers) =
    resources crtcs.now connectors.now encoders.now framebuffers.now
told_of (values.List ids) = list ids.now
told_of (values.Page rows) = page rows.now
told_of (values.Denial rule) = denial rule

-- ---- laws

-- The answer is the one with its content.
abbrev pub TellsBack : Answer → Told → Type 0
TellsBack answer (row kind fs) = answer_with kind fs ≡ Some answer
TellsBack answer (resources crtcs connectors encoders framebuffers) =
    answer ≡ answers.Resources crtcs connectors encoders framebuffers
TellsBack answer (list ids) = answer ≡ answers.List ids
TellsBack answer (page rows) = answer ≡ answers.Audit rows
TellsBack answer (denial rule) = answer ≡ answers.Denied rule

-- The answer of a kind and fields has these as its content.
abbrev pub AreToldBy : AnswerKind → List Field → Option Answer → Type 0
AreToldBy kind fs None = Unit {0}
AreToldBy kind fs (Some answer) = told answer ≡ row kind fs

-- The fields in the content have the widths of their kind.
abbrev pub HasToldWidths : Told → Type 0
HasToldWidths (row kind fs) = map width_of fs ≡ answer_widths kind
HasToldWidths _ = Unit {0}

-- What a frame asks (own; the numbers and fields are those of drm-uapi).
use Rattle.std.specs.Prelude.{◌≡◌, ℕ, List, Option, Some, None}
use Rattle.std.specs.Option.{option_and_then}
use Rattle.drm_table.specs.declared.calls.Call.{Call}
use Rattle.drm_table.specs.declared.calls.Call.TheVariants.{Unknown, BadLayout}
use Rattle.drm_table.specs.declared.fields.Field.{Field}
use Rattle.drm_table.specs.declared.calls.CallKind.{CallKind}
use Rattle.drm_table.specs.Fields.{FitsLayout}
use Rattle.drm_table.specs.Table.{kind_number, kind_layout, call_kind_of, call_row, call_with}
use Rattle.drm_frames.specs.Fields.{fields_text, fields_in}
use Rattle.drm_frames.specs.Grammar.{FrameValue, IsFrame, frame_text}

-- ---- the grammar

-- The frame's number is the row's, and its fields are these in order and nothing else.
pub record AsksRow (kind : CallKind) (fields : List Field) (f : FrameValue) : Type 0 where
  pub number : f.number ≡ kind_number kind
  pub fits : FitsLayout (kind_layout kind) fields
  pub text : f.fields ≡ fields_text (kind_layout kind) fields

-- The frame asks by this row of the table.
abbrev pub AsksBy : Option (CallKind × List Field) → FrameValue → Type 0
AsksBy None f = ⊥
AsksBy (Some row) f = AsksRow row.0 row.1 f

-- The frame asks this call of a row: its number is the row's, and its fields are the call's in order and nothing else.
abbrev pub IsRowCall : Call → FrameValue → Type 0
IsRowCall call f = AsksBy (call_row call) f

-- the numbers of the table
abbrev pub HasRow : ℕ → Type 0
HasRow n = (kind : CallKind) × (kind_number kind ≡ n)

-- Every frame asks something: a row's call, a number without a row, or a row's number with other fields.
abbrev pub Asks : FrameValue → Call → Type 0
Asks f (Unknown n) = (n ≡ f.number) × (HasRow n → ⊥)
Asks f (BadLayout n) = (n ≡ f.number) × HasRow n × ((call : Call) → IsRowCall call f → ⊥)
Asks f call = IsRowCall call f

-- a row's call, and so one that a frame can ask
abbrev pub IsOfRow : Call → Type 0
IsOfRow (Unknown n) = ⊥
IsOfRow (BadLayout n) = ⊥
IsOfRow call = Unit {0}

-- The text is that of a frame that asks the call.
pub record WritesCall (call : Call) (text : List ℕ) : Type 0 where
  pub frame : FrameValue
  pub asks : IsRowCall call frame
  pub fits : IsFrame frame
  pub whole : text ≡ frame_text frame

-- ---- the same as a function, for the layers above

-- the call, where the fields say one
abbrev pub or_bad : ℕ → Option Call → Call
or_bad n None = BadLayout n
or_bad n (Some call) = call

-- what a frame of this kind's number asks
abbrev pub asked_of : FrameValue → Option CallKind → Call
asked_of f None = Unknown f.number
asked_of f (Some kind) = or_bad f.number (option_and_then (call_with kind) (fields_in (kind_layout kind) f.fields))

-- what the frame asks
unfoldable pub request_of : FrameValue → Call
request_of f = asked_of f (call_kind_of f.number)

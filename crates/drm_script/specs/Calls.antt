-- The calls of clients, as words spell them (own).
use Rattle.std.specs.Prelude.{ℕ, List, Option, Some, codes, is_some, if◌then◌else◌}
use Rattle.std.specs.Str.{bytes_eq}
use Rattle.drm_table.specs.declared.calls.Call.{Call}
use Rattle.drm_table.specs.declared.calls.Call.TheVariants as calls
use Rattle.drm_table.specs.Table.{call_with, kind_layout, call_kind_of_word, row_of}
use Rattle.drm_script.specs.Fields.{Words, ◌>>=◌, word_at, end_at, number_at, fields_at}

-- a bare number is asked with the wrong fields where it has a row, and is unknown otherwise
abbrev pub raw_call : ℕ → Call
raw_call n = if is_some (row_of n) then calls.BadLayout n else calls.Unknown n

-- a call by its bare number
unfoldable pub raw_at : Words → Option Call
raw_at ws = do
  n ← number_at 16 ws
  end ← end_at n.1
  Some (raw_call n.0)

-- the call of a row of the table, by its word and its fields
unfoldable pub row_call_at : List ℕ → Words → Option Call
row_call_at w ws = do
  kind ← call_kind_of_word w
  fields ← fields_at (kind_layout kind) ws
  call_with kind fields

-- by the first word, and apart from it the others
abbrev pub call_behind : List ℕ → Words → Option Call
call_behind w ws = if bytes_eq w (codes "raw") then raw_at ws else row_call_at w ws

-- the call that the words spell
unfoldable pub call_at : Words → Option Call
call_at ws = do
  first ← word_at ws
  call_behind first.0 first.1

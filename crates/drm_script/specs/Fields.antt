-- The fields of a line, read one after another from its words (own). Each reader returns what it read and the words
-- that are left, or nothing.
use Rattle.std.specs.Prelude.{◌≤◌, ℕ, ◌-◌, ◌^◌, List, [], ◌∷◌, ◌&&◌, min, nat_lt, nat_le, if◌then◌else◌, Option, Some, None, option_and_then, length, replicate}
use Rattle.drm_table.specs.declared.fields.Width.{Width}
use Rattle.drm_table.specs.declared.fields.Width.TheVariants as widths
use Rattle.drm_table.specs.declared.fields.Field.{Field}
use Rattle.drm_table.specs.declared.fields.Field.TheVariants as fields
use Rattle.drm_table.specs.Fields.{Layout, read_each}
use Rattle.drm_table.specs.Fields.Layout.{numbers, ids}
use Rattle.std.specs.Str.{all_ascii_digits}
use Rattle.std.specs.Str.Parse.{digits_value}

-- a step, and the next step with what it read, if it read something
infixl 10 ◌>>=◌
abbrev pub ◌>>=◌ : {A B : Type 0} → Option A → (A → Option B) → Option B
o >>= f = option_and_then f o

-- the words of a line
abbrev pub Words : Type 0
Words = List (List ℕ)

-- the first word, and the others
abbrev pub word_at : Words → Option (List ℕ × Words)
word_at [] = None
word_at (w ∷ ws) = Some (w, ws)

-- no word is left
abbrev pub end_at : Words → Option (Unit {0})
end_at [] = Some tt
end_at (w ∷ ws) = None

-- the number that a word of decimal digits spells, of at most 64 bits
unfoldable pub number_of : List ℕ → Option ℕ
number_of w =
    if nat_lt 0 (length w) && all_ascii_digits w && nat_lt (digits_value 10 w) (2 ^ 64) then Some (digits_value 10 w)
    else None

-- the same number, if it has at most n bits
abbrev pub of_bits : ℕ → ℕ → Option ℕ
of_bits bits n = if nat_lt n (2 ^ bits) then Some n else None

-- a number of at most n bits
unfoldable pub number_at : ℕ → Words → Option (ℕ × Words)
number_at bits ws = do
  first ← word_at ws
  n ← number_of first.0
  fitting ← of_bits bits n
  Some (fitting, first.1)

-- a field of its width
unfoldable pub field_at : Width → Words → Option (Field × Words)
field_at widths.U32 ws = do
  n ← number_at 32 ws
  Some (fields.U32 n.0, n.1)
field_at widths.U64 ws = do
  n ← number_at 64 ws
  Some (fields.U64 n.0, n.1)

-- fields of these widths, and no word after them
unfoldable pub numbers_at : List Width → Words → Option (List Field)
numbers_at vs ws = do
  read ← read_each field_at vs ws
  end ← end_at read.1
  Some read.0

-- as many ids as there are words, 32 at most
abbrev pub id_count : Words → ℕ
id_count ws = min (length ws) 32

-- the fields of a layout, and no word after them: ids have no count, and each word is one
unfoldable pub fields_at : Layout → Words → Option (List Field)
fields_at (numbers ws) words = numbers_at ws words
fields_at ids words = numbers_at (replicate (id_count words) widths.U32) words

-- `room` is enough for the fields of a layout.
abbrev pub IsRoomFor : Layout → ℕ → Type 0
IsRoomFor (numbers ws) room = length ws ≤ room
IsRoomFor ids room = 32 ≤ room

-- the place in the alphabet of a letter from a to z, from 0
unfoldable pub place_of : ℕ → Option ℕ
place_of b = if nat_le 97 b && nat_le b 122 then Some (b - 97) else None

-- the label that a word of one letter is, by its place
unfoldable pub label_of : List ℕ → Option ℕ
label_of (b ∷ []) = place_of b
label_of _ = None

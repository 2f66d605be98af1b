-- The lines of a script, from what they say to how they are spelled: a row for each (own).
use Rattle.std.specs.Prelude.{Bool, ◌≡◌, ℕ, ◌+◌, ◌^◌, ◌<◌, ◌≤◌, ◌⊎◌, List, [], ◌∷◌, true, false, Option, Some, None, IsSome, IsTrue, codes, length, map}
use Rattle.std.specs.Str.{IsAscii}
use Rattle.std.specs.Str.Parse.{IsNumeral, digits_value}
use Rattle.drm_table.specs.declared.calls.Call.{Call}
use Rattle.drm_table.specs.declared.calls.Call.TheVariants as calls
use Rattle.drm_table.specs.declared.events.Opening.{Opening}
use Rattle.drm_table.specs.declared.events.Opening.TheVariants as openings
use Rattle.drm_table.specs.declared.limits.Limits.{Limits}
use Rattle.drm_table.specs.declared.fields.Field.{Field}
use Rattle.drm_table.specs.declared.fields.Field.TheVariants as fields
use Rattle.drm_table.specs.declared.calls.CallKind.{CallKind}
use Rattle.drm_table.specs.Fields.{FitsLayout}
use Rattle.drm_table.specs.Limits.{are_in_range}
use Rattle.drm_table.specs.Table.{row_of, call_row, kind_layout, kind_word}
use Rattle.drm_script.specs.declared.commands.Command.{Command}
use Rattle.drm_script.specs.declared.commands.Command.TheVariants as commands
use Rattle.drm_script.specs.Words.{words_of}

-- The meaning of a word of a line: a word of the script, a label by its place, or a number of at most n bits. Or it is
-- the number of a row in the table of calls, or a number of 16 bits that no row has.
pub data Part : Type 0 where
  word : List ℕ → Part
  label : ℕ → Part
  number : ℕ → ℕ → Part
  row_number : ℕ → Part
  rowless_number : ℕ → Part

-- Decimal digits and nothing else, with leading zeros or without, and a number of at most n bits.
abbrev pub SpellsNumber : ℕ → ℕ → List ℕ → Type 0
SpellsNumber bits n w = IsNumeral 10 w × (digits_value 10 w ≡ n) × (n < 2 ^ bits)

-- how a part is written: a label is one letter from a to z
abbrev pub Spells : Part → List ℕ → Type 0
Spells (word text) w = w ≡ text
Spells (label place) w = (place < 26) × (w ≡ (97 + place) ∷ [])
Spells (number bits n) w = SpellsNumber bits n w
Spells (row_number n) w = SpellsNumber 16 n w × IsSome (row_of n)
Spells (rowless_number n) w = SpellsNumber 16 n w × (row_of n ≡ None)

-- The words are these parts, one for one.
abbrev pub SpellEach : List Part → List (List ℕ) → Type 0
SpellEach [] [] = Unit {0}
SpellEach (part ∷ parts) (w ∷ ws) = Spells part w × SpellEach parts ws
SpellEach [] (w ∷ ws) = ⊥
SpellEach (part ∷ parts) [] = ⊥

-- the first word of an opening, with universal planes on or off
abbrev pub open_text : Bool → List ℕ
open_text true = codes "open"
open_text false = codes "open2"

-- The opening is one with universal planes on or off; a render client's is either.
abbrev pub Opens : Bool → Opening → Type 0
Opens on (openings.Primary root universal) = universal ≡ on
Opens on openings.Render = Unit {0}
Opens on (openings.Lease token root universal) = universal ≡ on

-- the openings
abbrev pub opening_parts : Opening → List Part
opening_parts (openings.Primary false universal) = word (codes "card") ∷ []
opening_parts (openings.Primary true universal) = word (codes "root") ∷ []
opening_parts openings.Render = word (codes "render") ∷ []
opening_parts (openings.Lease token false universal) = word (codes "lease") ∷ number 32 token ∷ []
opening_parts (openings.Lease token true universal) = word (codes "rootlease") ∷ number 32 token ∷ []

-- a field of a call
abbrev pub field_part : Field → Part
field_part (fields.U32 n) = number 32 n
field_part (fields.U64 n) = number 64 n

-- The words are the row's word and these fields in order; ids have no count.
pub record SpellsRow (kind : CallKind) (fs : List Field) (ws : List (List ℕ)) : Type 0 where
  pub fits : FitsLayout (kind_layout kind) fs
  pub words : SpellEach (word (kind_word kind) ∷ map field_part fs) ws

-- The words spell a call by this row of the table.
abbrev pub SpellsBy : Option (CallKind × List Field) → List (List ℕ) → Type 0
SpellsBy None ws = ⊥
SpellsBy (Some row) ws = SpellsRow row.0 row.1 ws

-- The words spell the call: the word of its row and its fields. A bare number is a call with the wrong fields if it has
-- a row, and an unknown one otherwise.
abbrev pub SpellsCall : Call → List (List ℕ) → Type 0
SpellsCall (calls.Unknown n) ws = SpellEach (word (codes "raw") ∷ rowless_number n ∷ []) ws
SpellsCall (calls.BadLayout n) ws = SpellEach (word (codes "raw") ∷ row_number n ∷ []) ws
SpellsCall call ws = SpellsBy (call_row call) ws

-- the first word is this part, and the others are so
abbrev pub BeginsWith : Part → (List (List ℕ) → Type 0) → List (List ℕ) → Type 0
BeginsWith part Others [] = ⊥
BeginsWith part Others (w ∷ ws) = Spells part w × Others ws

-- The words spell the command.
abbrev pub SpellsCommand : Command → List (List ℕ) → Type 0
SpellsCommand (commands.Open place opening) ws =
    (universal : Bool) × Opens universal opening × SpellEach
    (word (open_text universal) ∷ label place ∷ opening_parts opening) ws
SpellsCommand (commands.Close place) ws = SpellEach (word (codes "close") ∷ label place ∷ []) ws
SpellsCommand (commands.Ask place call) ws = BeginsWith (label place) (SpellsCall call) ws

-- the limits, in their order
abbrev pub limits_parts : Limits → List Part
limits_parts limits =
    word (codes "limits")
    ∷ number 32 limits.clients
    ∷ number 32 limits.handles
    ∷ number 32 limits.names
    ∷ number 32 limits.tokens
    ∷ number 32 limits.objects
    ∷ number 32 limits.framebuffers
    ∷ number 32 limits.lessees
    ∷ number 32 limits.journal
    ∷ []

-- a line of at most 255 bytes, all ASCII
pub record IsPlain (line : List ℕ) : Type 0 where
  pub short : length line ≤ 255
  pub ascii : IsAscii line

-- the line says the command
pub record IsCommandLine (line : List ℕ) (command : Command) : Type 0 where
  pub plain : IsPlain line
  pub says : SpellsCommand command (words_of line)

-- the line says the limits, and each is in its range
pub record IsLimitsLine (line : List ℕ) (limits : Limits) : Type 0 where
  pub plain : IsPlain line
  pub says : SpellEach (limits_parts limits) (words_of line)
  pub in_range : IsTrue (are_in_range limits)

-- the first byte is #
abbrev pub IsComment : List ℕ → Type 0
IsComment [] = ⊥
IsComment (b ∷ bs) = b ≡ 35

-- the line is a comment, or has no word
pub record IsSkippedLine (line : List ℕ) : Type 0 where
  pub plain : IsPlain line
  pub says_nothing : IsComment line ⊎ (words_of line ≡ [])

-- the line is none of these
pub record IsOtherLine (line : List ℕ) : Type 0 where
  pub unskipped : ¬ IsSkippedLine line
  pub no_limits : (limits : Limits) → ¬ IsLimitsLine line limits
  pub no_command : (command : Command) → ¬ IsCommandLine line command

-- The first word of a line that does not fit, and why it does not (own).
use Rattle.std.specs.Prelude.{◌≡◌, ℕ, ◌+◌, ◌-◌, ◌^◌, ◌⊎◌, Bool, true, false, ◌||◌, ◌==◌, nat_lt, List, [], ◌∷◌, map, replicate, drop, length, codes, if◌then◌else◌, Option, Some, None, is_some, option_and_then, position}
use Rattle.std.specs.Str.{bytes_eq}
use Rattle.drm_table.specs.declared.calls.CallKind.{CallKind}
use Rattle.drm_table.specs.declared.calls.CallKind.TheVariants as kinds
use Rattle.drm_table.specs.declared.fields.Width.{Width}
use Rattle.drm_table.specs.declared.fields.Width.TheVariants as widths
use Rattle.drm_table.specs.Audits as audits
use Rattle.drm_table.specs.Fields.{Layout}
use Rattle.drm_table.specs.Fields.Layout.{numbers, ids}
use Rattle.drm_table.specs.Limits.{are_in_range}
use Rattle.drm_table.specs.Table.{kind_layout, call_kind_of_word}
use Rattle.drm_script.specs.declared.limits_line.Limit.{Limit}
use Rattle.drm_script.specs.declared.limits_line.Limit.TheVariants as limits
use Rattle.drm_script.specs.declared.malformations.Malformation.{Malformation}
use Rattle.drm_script.specs.declared.malformations.Malformation.TheVariants as causes
use Rattle.drm_script.specs.declared.malformations.Malformed.{Malformed}
use Rattle.drm_script.specs.declared.malformations.Wanted.{Wanted}
use Rattle.drm_script.specs.declared.malformations.Wanted.TheVariants as wanted
use Rattle.drm_script.specs.declared.openings.OpeningWord.{OpeningWord}
use Rattle.drm_script.specs.declared.openings.OpeningWord.TheVariants as openings
use Rattle.drm_script.specs.declared.reading.LineWord.{LineWord}
use Rattle.drm_script.specs.declared.reading.LineWord.TheVariants as lines
use Rattle.drm_script.specs.Fields.{Words, number_of, of_bits, label_of, id_count}
use Rattle.drm_script.specs.LimitsLine.{with_limit}
use Rattle.drm_script.specs.Malformations.{first_told}
use Rattle.drm_script.specs.Openings.{opening_word_of}
use Rattle.drm_script.specs.Reading.{line_word_of}
use Rattle.drm_script.specs.Words.{words_of}

-- What a line has in the place of a word. A number has at most a number of bits.
pub data Place : Type 0 where
  first_word : Place
  label : Place
  opening : Place
  call : Place
  number : ℕ → Place
  audit_kind : Place
  limit : Limit → Place

-- what is missing where the line ends in front of the place
abbrev pub wanted_at : Place → Wanted
wanted_at Place.first_word = wanted.FirstWord
wanted_at Place.label = wanted.Label
wanted_at Place.opening = wanted.Opening
wanted_at Place.call = wanted.Call
wanted_at (Place.number bits) = wanted.Number (2 ^ bits - 1)
wanted_at Place.audit_kind = wanted.Number (2 ^ 32 - 1)
wanted_at (Place.limit which) = wanted.Number (2 ^ 32 - 1)

-- the cause, unless the test passes
abbrev pub unless : Bool → Malformation → Option Malformation
unless fits cause = if fits then None else Some cause

-- the number of at most n bits that a word spells
abbrev pub number_in_bits : ℕ → List ℕ → Option ℕ
number_in_bits bits w = option_and_then (of_bits bits) (number_of w)

-- no number of 32 bits, or one that does not pass a further test
abbrev pub number_fault : (ℕ → Bool) → Malformation → Option ℕ → Option Malformation
number_fault test cause None = Some (causes.Unfit (wanted.Number (2 ^ 32 - 1)))
number_fault test cause (Some n) = unless (test n) cause

-- why a word does not fit in the place; nothing where it fits
abbrev pub fault_at : Place → List ℕ → Option Malformation
fault_at Place.first_word w = unless (is_some (line_word_of w) || is_some (label_of w)) (causes.Unfit wanted.FirstWord)
fault_at Place.label w = unless (is_some (label_of w)) (causes.Unfit wanted.Label)
fault_at Place.opening w = unless (is_some (opening_word_of w)) (causes.Unfit wanted.Opening)
fault_at Place.call w = unless (bytes_eq w (codes "raw") || is_some (call_kind_of_word w)) (causes.Unfit wanted.Call)
fault_at (Place.number bits) w = unless (is_some (number_in_bits bits w)) (causes.Unfit (wanted.Number (2 ^ bits - 1)))
fault_at Place.audit_kind w =
    number_fault (λ n. is_some (audits.kind_of n)) (causes.Unfit wanted.AuditKind) (number_in_bits 32 w)
fault_at (Place.limit which) w =
    number_fault (λ n. are_in_range (with_limit which n)) causes.LimitRange (number_in_bits 32 w)

-- a word is a fault, or the first one after it is
abbrev pub fault_or : Option Malformation → Words → Option (Malformation × Words) → Option (Malformation × Words)
fault_or (Some cause) ws behind = Some (cause, ws)
fault_or None ws behind = behind

-- the cause of the first word that does not fit in its place, and the words from it on: one is missing, is unfit, or is one too many
abbrev pub first_misfit : List Place → Words → Option (Malformation × Words)
first_misfit [] [] = None
first_misfit [] (w ∷ ws) = Some (causes.TooManyWords, w ∷ ws)
first_misfit (p ∷ ps) [] = Some (causes.Lacks (wanted_at p), [])
first_misfit (p ∷ ps) (w ∷ ws) = fault_or (fault_at p w) (w ∷ ws) (first_misfit ps ws)

-- The cause and the words are those of the first word that does not fit.
abbrev pub IsFirstMisfit : List Place → Words → Malformation → Words → Type 0
IsFirstMisfit ps ws cause at = first_misfit ps ws ≡ Some (cause, at)

-- No word is there, where this would have fitted.
abbrev pub LacksWord : Wanted → Words → Malformation → Words → Type 0
LacksWord what ws cause at = (cause ≡ causes.Lacks what) × (ws ≡ []) × (at ≡ [])

-- The first of the words is at fault in the place, or there is none.
abbrev pub IsFault : Place → Words → Malformation → Words → Type 0
IsFault p [] cause at = (cause ≡ causes.Lacks (wanted_at p)) × (at ≡ [])
IsFault p (w ∷ ws) cause at = (fault_at p w ≡ Some cause) × (at ≡ w ∷ ws)

-- The first of the words fits in the place, and the others are left.
abbrev pub IsPassed : Place → Words → Words → Type 0
IsPassed p [] rest = ⊥
IsPassed p (w ∷ ws) rest = (fault_at p w ≡ None) × (rest ≡ ws)

-- The first of the words is no number, or that of a kind of an audit.
abbrev pub IsNoOtherKind : Words → Type 0
IsNoOtherKind [] = Unit {0}
IsNoOtherKind (w ∷ ws) = (number_in_bits 32 w ≡ None) ⊎ (fault_at Place.audit_kind w ≡ None)

-- The first field of an audit is the number of a kind, or no number.
abbrev pub KindFits : CallKind → Words → Type 0
KindFits kinds.Audit ws = IsNoOtherKind ws
KindFits _ ws = Unit {0}

-- ---- the places of a line

-- the places of a line of limits, after its word
abbrev pub limit_places : List Place
limit_places =
    Place.limit limits.Clients
    ∷ Place.limit limits.Handles
    ∷ Place.limit limits.Names
    ∷ Place.limit limits.Tokens
    ∷ Place.limit limits.Objects
    ∷ Place.limit limits.Framebuffers
    ∷ Place.limit limits.Lessees
    ∷ Place.limit limits.Journal
    ∷ []

-- the places after the word of an opening
abbrev pub opening_fields : Option OpeningWord → List Place
opening_fields (Some openings.Lease) = Place.number 32 ∷ []
opening_fields (Some openings.RootLease) = Place.number 32 ∷ []
opening_fields _ = []

-- the places of an opening, by its words
abbrev pub opening_places : Words → List Place
opening_places [] = Place.opening ∷ []
opening_places (w ∷ ws) = Place.opening ∷ opening_fields (opening_word_of w)

-- the place of a field, by its width
abbrev pub width_place : Width → Place
width_place widths.U32 = Place.number 32
width_place widths.U64 = Place.number 64

-- the places of the fields of a layout: as many ids as there are words
abbrev pub layout_places : Layout → Words → List Place
layout_places (numbers vs) ws = map width_place vs
layout_places ids ws = replicate (id_count ws) (Place.number 32)

-- the first field of an audit is its kind
abbrev pub with_kind : CallKind → List Place → List Place
with_kind kinds.Audit (p ∷ ps) = Place.audit_kind ∷ ps
with_kind _ ps = ps

-- the places after the word of a call
abbrev pub call_fields : Option CallKind → Words → List Place
call_fields None ws = []
call_fields (Some kind) ws = with_kind kind (layout_places (kind_layout kind) ws)

-- the places after a call's word
abbrev pub fields_behind : List ℕ → Words → List Place
fields_behind w ws = if bytes_eq w (codes "raw") then Place.number 16 ∷ [] else call_fields (call_kind_of_word w) ws

-- the places of a call, by its words
abbrev pub call_places : Words → List Place
call_places [] = Place.call ∷ []
call_places (w ∷ ws) = Place.call ∷ fields_behind w ws

-- the places after the first word of a line
abbrev pub places_behind : Option LineWord → Words → List Place
places_behind (Some lines.Limits) ws = limit_places
places_behind (Some lines.Open) ws = Place.label ∷ opening_places (drop 1 ws)
places_behind (Some lines.Open2) ws = Place.label ∷ opening_places (drop 1 ws)
places_behind (Some lines.Close) ws = Place.label ∷ []
places_behind None ws = call_places ws

-- the places of a line, by its words
abbrev pub line_places : Words → List Place
line_places [] = []
line_places (w ∷ ws) = Place.first_word ∷ places_behind (line_word_of w) ws

-- ---- the report of a line

-- A byte of the line is at fault: the cause, the byte's column, from 1, and no word.
pub record IsByteFault (reported : Malformation) (place : ℕ) (m : Malformed) : Type 0 where
  pub cause : m.cause ≡ reported
  pub column : m.column ≡ place + 1
  pub word : m.word.bytes ≡ []

-- the line is too long; else something else is reported
abbrev pub by_length : Bool → Malformed → Type 0 → Type 0
by_length true m Else = IsByteFault causes.TooLong 255 m
by_length false m Else = Else

-- a byte at this place is at fault; else something else is reported
abbrev pub by_byte : Malformation → Option ℕ → Malformed → Type 0 → Type 0
by_byte cause (Some place) m Else = IsByteFault cause place m
by_byte cause None m Else = Else

-- The cause is that of the first word of the line that does not fit. That word begins at the column, and is the
-- reported one.
pub record IsWordFault (line : List ℕ) (m : Malformed) : Type 0 where
  pub first : IsFirstMisfit (line_places (words_of line)) (words_of line) m.cause (words_of (drop (m.column - 1) line))
  pub word : m.word.bytes ≡ first_told (words_of (drop (m.column - 1) line))

-- The report for a malformed line. The line is too long, or the report is of its first byte above 127, its first
-- carriage return, its first tab, or its first word that does not fit.
abbrev pub IsFaultOf : List ℕ → Malformed → Type 0
IsFaultOf line m =
    by_length (nat_lt 255 (length line)) m
    (by_byte causes.NotAscii (position (nat_lt 127) line) m
    (by_byte causes.CarriageReturn (position (λ b. b == 13) line) m
    (by_byte causes.Tab (position (λ b. b == 9) line) m
    (IsWordFault line m))))

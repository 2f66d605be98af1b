-- The fields of requests and answers: numbers, each with a width (own).
use Rattle.std.specs.Prelude.{◌≡◌, ℕ, ◌^◌, ◌<◌, ◌≤◌, List, [], ◌∷◌, length, Option, Some, None, map, All, replicate}
use Rattle.std.specs.Option.{option_and_then, option_map}
use Rattle.drm_table.specs.declared.fields.Width.{Width}
use Rattle.drm_table.specs.declared.fields.Width.TheVariants as widths
use Rattle.drm_table.specs.declared.fields.Field.{Field}
use Rattle.drm_table.specs.declared.fields.Field.TheVariants as fields
use Rattle.drm_table.specs.declared.fields.Layout.{Layout as LayoutValue}
use Rattle.drm_table.specs.declared.fields.Layout.TheVariants as layouts

-- the width of a field
abbrev pub width_of : Field → Width
width_of (fields.U32 n) = widths.U32
width_of (fields.U64 n) = widths.U64

-- the number in a field
abbrev pub number_in : Field → ℕ
number_in (fields.U32 n) = n
number_in (fields.U64 n) = n

-- the ids in the fields, if each is as wide as an id
abbrev pub ids_in : List Field → Option (List ℕ)
ids_in [] = Some []
ids_in (fields.U32 id ∷ fs) = option_map (λ more. id ∷ more) (ids_in fs)
ids_in (fields.U64 n ∷ fs) = None

-- The number fits its field.
abbrev pub FitsField : Field → Type 0
FitsField (fields.U32 n) = n < 2 ^ 32
FitsField (fields.U64 n) = n < 2 ^ 64

-- the layout of a row's fields: numbers of these widths, or a list of ids
pub data Layout : Type 0 where
  numbers : List Width → Layout
  ids : Layout

-- the layout of its value
abbrev pub layout_of : LayoutValue → Layout
layout_of (layouts.Numbers ws) = numbers ws.now
layout_of layouts.Ids = ids

-- the widths of n fields
abbrev pub widths_in : Layout → ℕ → List Width
widths_in (numbers ws) n = ws
widths_in ids n = replicate n widths.U32

-- a row has 5 numbers at most
abbrev pub IsShort : Layout → Type 0
IsShort (numbers ws) = length ws ≤ 5
IsShort ids = Unit {0}

-- The fields are those of the layout: of its widths, each number within its width, and 32 ids at most.
pub record FitsLayout (layout : Layout) (fs : List Field) : Type 0 where
  pub widths : map width_of fs ≡ widths_in layout (length fs)
  pub few : length fs ≤ 32
  pub each : All FitsField fs

-- ---- a reader of fields, from a reader of one

-- a field in front of the fields that were read after it
abbrev pub put_before : {S : Type 0} → Field → List Field × S → List Field × S
put_before field more = (field ∷ more.0, more.1)

-- a field of each width, one after the other, and the rest
abbrev pub read_each : {S : Type 0} → (Width → S → Option (Field × S)) → List Width → S → Option (List Field × S)
read_each read [] s = Some ([], s)
read_each read (w ∷ ws) s = option_and_then (λ one. option_map (put_before one.0) (read_each read ws one.1)) (read w s)

-- The fields of requests and answers as bytes (own).
use Rattle.std.specs.Prelude.{ℕ, Bool, true, false, ◌&&◌, if◌then◌else◌, nat_le, List, ◌++◌, length, drop, replicate, Option, Some, None}
use Rattle.std.specs.List.{flat_map}
use Rattle.std.specs.Option.{option_and_then}
use Rattle.drm_table.specs.declared.fields.Width.{Width}
use Rattle.drm_table.specs.declared.fields.Width.TheVariants as widths
use Rattle.drm_table.specs.declared.fields.Field.{Field}
use Rattle.drm_table.specs.declared.fields.Field.TheVariants as fields
use Rattle.drm_table.specs.Fields.{Layout, read_each}
use Rattle.drm_table.specs.Fields.Layout.{numbers, ids}
use Rattle.drm_frames.specs.Number.{u32, u64, u32_in, u64_in}
use Rattle.drm_frames.specs.Grammar.{if_size}

-- ---- the grammar

-- a number of 4 or 8 bytes
abbrev pub field_text : Field → List ℕ
field_text (fields.U32 n) = u32 n
field_text (fields.U64 n) = u64 n

-- the fields one after the other; for ids their count, and each of them
unfoldable pub fields_text : Layout → List Field → List ℕ
fields_text (numbers ws) fs = flat_map field_text fs
fields_text ids fs = u32 (length fs) ++ flat_map field_text fs

-- ---- the same as a function

-- the field in the first bytes, and the bytes after it
unfoldable pub field_in : Width → List ℕ → Option (Field × List ℕ)
field_in widths.U32 bytes = if nat_le 4 (length bytes) then Some (fields.U32 (u32_in bytes), drop 4 bytes) else None
field_in widths.U64 bytes = if nat_le 8 (length bytes) then Some (fields.U64 (u64_in bytes), drop 8 bytes) else None

-- fields that were read, or none
abbrev pub if_read : Bool → List Field → Option (List Field)
if_read true fields = Some fields
if_read false fields = None

-- the fields of these widths that the bytes are, without a rest
unfoldable pub numbers_in : List Width → List ℕ → Option (List Field)
numbers_in ws bytes = option_and_then (λ read. if_size 0 read.1 read.0) (read_each field_in ws bytes)

-- the fields of a layout that the bytes are
unfoldable pub fields_in : Layout → List ℕ → Option (List Field)
fields_in (numbers ws) bytes = numbers_in ws bytes
fields_in ids bytes =
    if nat_le 4 (length bytes) && nat_le (u32_in bytes) 32 then numbers_in (replicate (u32_in bytes) widths.U32)
    (drop 4 bytes) else None

-- The rows of an audit as bytes (own).
use Rattle.std.specs.Prelude.{ℕ, zero, suc, ◌^◌, ◌<◌, ◌≤◌, List, [], ◌∷◌, ◌++◌, All, length, drop}
use Rattle.std.specs.List.{flat_map}
use Rattle.drm_table.specs.declared.audits.AuditRow.{AuditRow}
use Rattle.drm_frames.specs.Number.{u32, u64, u64_in}

-- four numbers of 8 bytes
abbrev pub row_text : AuditRow → List ℕ
row_text row = u64 row.a ++ u64 row.b ++ u64 row.c ++ u64 row.d

-- how many rows there are, and each of them
abbrev pub page_text : List AuditRow → List ℕ
page_text rows = u32 (length rows) ++ flat_map row_text rows

-- The numbers of a row fit their 8 bytes.
abbrev pub FitsRow : AuditRow → Type 0
FitsRow row = (row.a < 2 ^ 64) × (row.b < 2 ^ 64) × (row.c < 2 ^ 64) × (row.d < 2 ^ 64)

-- at most 16 rows, and each fits
pub record FitsPage (rows : List AuditRow) : Type 0 where
  pub few : length rows ≤ 16
  pub each : All FitsRow rows

-- ---- the same as a function

-- the row in the first 32 bytes
abbrev pub row_in : List ℕ → AuditRow
row_in bytes =
    record { a = u64_in bytes; b = u64_in (drop 8 bytes); c = u64_in (drop 16 bytes); d = u64_in (drop 24 bytes) }

-- n rows, one after the other
abbrev pub rows_in : ℕ → List ℕ → List AuditRow
rows_in zero bytes = []
rows_in (suc count) bytes = row_in bytes ∷ rows_in count (drop 32 bytes)

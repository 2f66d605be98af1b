use Rattle.std.proofs.Common.{◌≡◌, ℕ, ◌+◌, ◌*◌, ◌<◌, ◌++◌, length, get_or, drop}
use Rattle.std.specs.List.{flat_map}
use Rattle.drm_table.specs.declared.audits.AuditRow.{AuditRow}
use Rattle.drm_frames.specs.Pages.{FitsRow, row_text}
use Rattle.drm_frames.proofs.pages.push_rows.Given as goal

abbrev pub invariant-loop-row : goal.invariant-loop-row
invariant-loop-row l = record {
  text : l.fields ++ flat_map row_text (drop l.row-index l.rows) ≡ l.fn.fields ++ flat_map row_text l.rows;
  len : length l.fields ≡ length l.fn.fields + 32 * l.row-index;
  fits : (k : ℕ) (d : AuditRow) → k < l.row-index → FitsRow (get_or l.rows k d);
}

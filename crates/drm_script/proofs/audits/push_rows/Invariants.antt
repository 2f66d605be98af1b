use Rattle.std.proofs.Common.{◌≡◌, ◌≤◌, ◌+◌, ◌*◌, ◌++◌, length, drop}
use Rattle.std.specs.List.{flat_map}
use Rattle.drm_script.specs.Lines.{row_behind}
use Rattle.drm_script.proofs.audits.push_rows.Given as goal

abbrev pub invariant-loop-row : goal.invariant-loop-row
invariant-loop-row l = record {
  bytes : l.text.bytes ++ flat_map row_behind (drop l.row-index l.rows) ≡ l.fn.text.bytes ++ flat_map row_behind l.rows;
  len : length l.text.bytes ≤ length l.fn.text.bytes + 86 * l.row-index;
}

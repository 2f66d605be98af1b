use Rattle.std.proofs.Common.{◌≡◌, ◌≤◌, ◌+◌, ◌*◌, ◌++◌, length, drop}
use Rattle.std.specs.List.{flat_map}
use Rattle.drm_script.specs.Lines.{number_behind}
use Rattle.drm_script.proofs.lines.push_fields.Given as goal

abbrev pub invariant-loop-field : goal.invariant-loop-field
invariant-loop-field l = record {
  bytes : l.text.bytes ++ flat_map number_behind (drop l.field-index l.fields) ≡ l.fn.text.bytes ++ flat_map number_behind l.fields;
  len : length l.text.bytes ≤ length l.fn.text.bytes + 21 * l.field-index;
}

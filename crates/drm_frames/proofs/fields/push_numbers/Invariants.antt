use Rattle.std.proofs.Common.{◌≡◌, ◌≤◌, ℕ, ◌+◌, ◌*◌, ◌<◌, ◌++◌, length, get_or, drop}
use Rattle.std.specs.List.{flat_map}
use Rattle.drm_table.specs.declared.fields.Field.{Field}
use Rattle.drm_table.specs.Fields.{FitsField}
use Rattle.drm_frames.specs.Fields.{field_text}
use Rattle.drm_frames.proofs.fields.push_numbers.Given as goal

abbrev pub invariant-loop-field : goal.invariant-loop-field
invariant-loop-field l = record {
  text : l.text ++ flat_map field_text (drop l.field-index l.fields) ≡ l.fn.text ++ flat_map field_text l.fields;
  len : length l.text ≤ length l.fn.text + 8 * l.field-index;
  fits : (k : ℕ) (d : Field) → k < l.field-index → FitsField (get_or l.fields k d);
}

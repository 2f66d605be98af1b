use Rattle.std.proofs.Common.{◌≡◌, ◌++◌, drop}
use Rattle.std.specs.List.{flat_map}
use Rattle.drm_script.specs.Lines.{number_behind}
use Rattle.drm_checks.proofs.lines.put_fields.Given as goal

abbrev pub invariant-loop-field : goal.invariant-loop-field
invariant-loop-field l =
    l.text.items ++ flat_map number_behind (drop l.field-index l.fields) ≡ l.fn.text.items ++ flat_map number_behind
    l.fields

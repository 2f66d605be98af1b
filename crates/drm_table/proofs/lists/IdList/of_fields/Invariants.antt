use Rattle.std.proofs.Common.{◌≡◌, ◌++◌, length, drop}
use Rattle.std.specs.Option.{option_map}
use Rattle.drm_table.specs.Fields.{ids_in}
use Rattle.drm_table.proofs.lists.IdList.of_fields.Given as goal

abbrev pub invariant-loop-field : goal.invariant-loop-field
invariant-loop-field l = record {
  ids : option_map (λ more. l.ids.items ++ more) (ids_in (drop l.field-index l.fields)) ≡ ids_in l.fields;
  few : length l.ids.items ≡ l.field-index;
}

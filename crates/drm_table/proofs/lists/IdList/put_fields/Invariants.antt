use Rattle.std.proofs.Common.{◌≡◌, ◌++◌, length, drop}
use Rattle.std.specs.Prelude.{map}
use Rattle.drm_table.specs.declared.fields.Field.TheVariants as fields
use Rattle.drm_table.proofs.lists.IdList.put_fields.Given as goal

abbrev pub invariant-loop-id : goal.invariant-loop-id
invariant-loop-id l = record {
  fields : l.fields ++ map fields.U32 (drop l.id-index l.id-items) ≡ map fields.U32 l.id-items;
  few : length l.fields ≡ l.id-index;
}

use Rattle.std.proofs.Common.{◌≡◌, length, drop}
use Rattle.drm_table.specs.Fields.{read_each}
use Rattle.drm_table.proofs.Readers.{ahead}
use Rattle.drm_frames.specs.Fields.{field_in}
use Rattle.drm_frames.proofs.fields.read_numbers.Given as goal

abbrev pub invariant-loop-width : goal.invariant-loop-width
invariant-loop-width g l = record {
  read : ahead l.fields (read_each field_in (drop l.width-index l.widths) l.rest) ≡ read_each field_in l.widths l.bytes;
  few : length l.fields ≡ l.width-index;
}

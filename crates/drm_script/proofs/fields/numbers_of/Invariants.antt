use Rattle.std.proofs.Common.{◌≡◌, length, drop}
use Rattle.std.specs.Prelude.{map}
use Rattle.drm_table.specs.Fields.{read_each}
use Rattle.drm_table.proofs.Readers.{ahead}
use Rattle.drm_script.specs.Fields.{field_at}
use Rattle.drm_script.specs.Faults.{first_misfit, width_place}
use Rattle.drm_script.specs.Words.{words_of}
use Rattle.drm_script.proofs.fields.numbers_of.Given as goal

abbrev pub invariant-loop-width : goal.invariant-loop-width
invariant-loop-width g l = record {
  read : ahead l.fields (read_each field_at (drop l.width-index l.widths) (words_of l.rest)) ≡ read_each field_at l.widths (words_of l.text);
  misfit : first_misfit (map width_place l.widths) (words_of l.text) ≡ first_misfit (map width_place (drop l.width-index l.widths)) (words_of l.rest);
  few : length l.fields ≡ l.width-index;
}

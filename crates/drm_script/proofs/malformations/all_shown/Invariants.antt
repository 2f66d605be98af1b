use Rattle.std.proofs.Common.{◌≡◌, ◌++◌, length, drop}
use Rattle.std.specs.Prelude.{map}
use Rattle.drm_script.specs.Malformations.{shown}
use Rattle.drm_script.proofs.malformations.all_shown.Given as goal

abbrev pub invariant-loop-byte : goal.invariant-loop-byte
invariant-loop-byte l = record {
  bytes : l.text.bytes ++ map shown (drop l.byte-index l.word) ≡ map shown l.word;
  len : length l.text.bytes ≡ l.byte-index;
}

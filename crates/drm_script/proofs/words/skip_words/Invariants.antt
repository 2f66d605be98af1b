use Rattle.std.proofs.Common.{◌≡◌, drop}
use Rattle.drm_script.specs.Words.{words_of, IsEndOf}
use Rattle.drm_script.proofs.words.skip_words.Given as goal

abbrev pub invariant-loop : goal.invariant-loop
invariant-loop l = record {
  words : words_of l.rest ≡ drop l.counter (words_of l.text);
  behind : IsEndOf l.text l.rest;
}

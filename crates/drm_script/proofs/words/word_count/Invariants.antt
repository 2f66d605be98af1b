use Rattle.std.proofs.Common.{◌≡◌, ◌+◌, length}
use Rattle.drm_script.specs.Words.{words_of}
use Rattle.drm_script.proofs.words.word_count.Given as goal

abbrev pub invariant-loop-count : goal.invariant-loop-count
invariant-loop-count l = l.count + length (words_of l.rest) ≡ length (words_of l.text)

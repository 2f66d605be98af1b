use Rattle.std.proofs.Common.{◌≡◌, ◌++◌, take}
use Rattle.std.specs.String.{string_bytes}
use Rattle.drm_sentences.specs.Texts.{lines}
use Rattle.drm_sentences.proofs.writing.put_sentences.Given as goal

abbrev pub invariant-loop-sentence : goal.invariant-loop-sentence
invariant-loop-sentence l =
    string_bytes l.text ≡ string_bytes l.initial.text ++ lines (take l.sentence-index l.sentences)

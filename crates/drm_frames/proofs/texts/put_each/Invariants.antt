use Rattle.std.proofs.Common.{take}
use Rattle.drm_frames.specs.Turns.{WriteCost}
use Rattle.drm_frames.specs.Texts.{joined_texts}
use Rattle.drm_frames.proofs.texts.put_each.Given as goal

abbrev pub invariant-loop-text : goal.invariant-loop-text
invariant-loop-text g l =
    WriteCost (g.K.Sink.trace l.fn.sink) (g.K.Sink.trace l.sink) (joined_texts (take l.text-index l.texts)) l.fn.turns
    l.turns

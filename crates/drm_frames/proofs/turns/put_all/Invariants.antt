use Rattle.drm_frames.specs.Turns.{PutPieces}
use Rattle.drm_frames.proofs.PutSoFar.{PutSoFar}
use Rattle.drm_frames.proofs.turns.put_all.Given as goal

abbrev pub invariant-pieces : goal.invariant-pieces
invariant-pieces g l =
    let trace = g.K.Sink.trace in
    PutSoFar (trace l.fn.sink) (trace l.sink) l.fn.text l.rest l.fn.turns l.turns l.interruptions
    × PutPieces (trace l.fn.sink).counts (trace l.sink).counts l.interruptions

abbrev pub decreases-pieces : goal.decreases-pieces
decreases-pieces g l = l.turns

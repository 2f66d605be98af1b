use Rattle.std.proofs.Common.{arith}
use Rattle.drm_frames.proofs.PutSoFar.{PutSoFar-took, PutSoFar-Tries}
use Rattle.drm_frames.proofs.CallCounts.{PutPieces-took}
use Rattle.drm_frames.proofs.turns.put_all.Goals as goal

pub pieces-preserved-in-Took : goal.pieces-preserved-in-Took
pieces-preserved-in-Took g c =
    let trace = g.K.Sink.trace in
    let so_far = c.pieces.invariant in (
      PutSoFar-took (trace c.args.sink.now) (trace c.pieces.sink) (trace c.put.new.self) _ _ _ _ _ _ _ so_far.0
          (omega arith) (omega arith)
          c.in-Took.ensures.gives c.in-Took.ensures.counts c.split_at.ensures.back,
      PutPieces-took _ _ so_far.1 so_far.0.patient (omega arith) c.in-Took.ensures.gives.0 c.in-Took.ensures.counts,
    )

pub returns-clause-tries : goal.returns-clause-tries
returns-clause-tries g c = PutSoFar-Tries _ _ _ _ _ _ _ c.pieces.invariant.0

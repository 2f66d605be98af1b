use Rattle.std.proofs.Common.{◌≡◌, [], ◌+◌}
use Rattle.drm_frames.specs.Turns.{ReadCost, interrupted}
use Rattle.drm_frames.proofs.turns.take_some.Given as goal

abbrev pub invariant-tries : goal.invariant-tries
invariant-tries g l =
    let trace = g.S.Source.trace in
    record {
      spent : ReadCost (trace l.fn.source) (trace l.source) [] l.fn.turns l.turns;
      called : (trace l.source).counts.calls ≡ (trace l.fn.source).counts.calls + l.counter;
      faults : (trace l.source).counts.faults ≡ (trace l.fn.source).counts.faults + l.counter;
      each : (trace l.source).counts ≡ interrupted l.counter (trace l.fn.source).counts;
      gave : (trace l.source).gave ≡ (trace l.fn.source).gave;
    }

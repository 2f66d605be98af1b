use Rattle.std.proofs.Common.{◌≤◌, ◌+◌, ◌*◌}
use Rattle.drm_runs.specs.LineSteps.{fuel_of}
use Rattle.drm_runs.specs.RunSteps.{SoFar}
use Rattle.drm_runs.proofs.run.run_on.Given as goal

abbrev pub invariant-lines : goal.invariant-lines
invariant-lines g l =
    let source = g.S.Source.trace in
    let sink = g.K.Sink.trace in
    record {
      so_far : SoFar l.fn.setup (source l.fn.source) (source l.source) (sink l.fn.sink) (sink l.sink) l.fn.turns l.run;
      source_calls : (source l.source).counts.calls + l.run.turns ≤ (source l.fn.source).counts.calls + l.fn.turns;
      sink_calls : (sink l.sink).counts.calls + l.run.turns ≤ (sink l.fn.sink).counts.calls + l.fn.turns;
      fuel : l.run.lines.number + fuel_of l.run.lines l.run.turns ≤ 256 * l.fn.turns + 1;
    }

abbrev pub decreases-lines : goal.decreases-lines
decreases-lines g l = fuel_of l.run.lines l.run.turns

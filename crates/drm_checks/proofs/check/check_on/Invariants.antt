use Rattle.std.proofs.Common.{◌≤◌, ◌+◌, ◌*◌}
use Rattle.drm_checks.specs.Differences.{file_of}
use Rattle.drm_runs.specs.LineSteps.{fuel_of}
use Rattle.drm_checks.specs.Steps.{SoFar}
use Rattle.drm_checks.proofs.check.check_on.Given as goal

abbrev pub invariant-lines : goal.invariant-lines
invariant-lines g l =
    let source = g.S.Source.trace in
    let sink = g.K.Sink.trace in
    record {
      so_far : SoFar l.fn.setup (file_of l.fn.name l.fn.command) (source l.fn.source) (source l.source) (sink l.fn.sink) (sink l.sink) l.fn.turns l.check;
      passed : l.check.checker.passed ≤ l.check.lines.number;
      failed : l.check.checker.failed ≤ l.check.lines.number;
      source_calls : (source l.source).counts.calls + l.check.checker.turns ≤ (source l.fn.source).counts.calls + l.fn.turns;
      sink_calls : (sink l.sink).counts.calls + l.check.checker.turns ≤ (sink l.fn.sink).counts.calls + l.fn.turns;
      fuel : l.check.lines.number + fuel_of l.check.lines l.check.checker.turns ≤ 256 * l.fn.turns + 1;
    }

abbrev pub decreases-lines : goal.decreases-lines
decreases-lines g l = fuel_of l.check.lines l.check.checker.turns

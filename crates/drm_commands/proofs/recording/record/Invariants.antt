use Rattle.std.proofs.Common.{◌+◌, ◌*◌, ◌≤◌}
use Rattle.drm_runs.specs.LineSteps.{fuel_of}
use Rattle.drm_commands.proofs.recording.record.Given as goal

abbrev pub invariant-lines : goal.invariant-lines
invariant-lines g l = record {
  calls : (g.S.Source.trace l.source).counts.calls + l.left ≤ (g.S.Source.trace l.fn.source).counts.calls + l.fn.turns;
  number : l.recorder.lines.number + fuel_of l.recorder.lines l.left ≤ 256 * l.fn.turns + 1;
}

abbrev pub decreases-lines : goal.decreases-lines
decreases-lines g l = fuel_of l.recorder.lines l.left

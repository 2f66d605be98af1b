use Rattle.std.proofs.Common.{◌+◌, ◌≤◌, length}
use Rattle.drm_runs.specs.TopologyLines.{lines_in}
use Rattle.drm_runs.specs.Parts.{told_in}
use Rattle.drm_runs.proofs.SoFar.{SoFar}
use Rattle.drm_runs.proofs.reading.read_topology.Given as goal

abbrev pub invariant-lines : goal.invariant-lines
invariant-lines l = record {
  so_far : SoFar (lines_in l.text) (lines_in l.rest) l.above (told_in l.parts);
  room : l.above + length l.rest ≤ length l.text;
}

abbrev pub decreases-lines : goal.decreases-lines
decreases-lines l = length l.rest

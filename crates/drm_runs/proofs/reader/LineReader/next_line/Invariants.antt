use Rattle.std.proofs.Common.{◌≤◌, ◌+◌, ℕ, List}
use Rattle.drm_runs.specs.Reader.{ReadsSoFar}
use Rattle.drm_runs.proofs.reader.LineReader.next_line.Given as goal

abbrev pub invariant-pieces : goal.invariant-pieces
invariant-pieces g l =
    let trace = g.S.Source.trace in
    record {
      given : (given : List ℕ) × ReadsSoFar l.fn.self l.self (trace l.fn.source) (trace l.source) l.fn.turns l.turns given;
      countable : (trace l.source).counts.calls + l.turns ≤ (trace l.fn.source).counts.calls + l.fn.turns;
    }

abbrev pub decreases-pieces : goal.decreases-pieces
decreases-pieces g l = l.turns

use Rattle.std.proofs.Common.{arith}
use Rattle.drm_runs.proofs.reader.LineReader.next_line.Goals as goal

pub returns-in-Some : goal.returns-in-Some
returns-in-Some g c = let so = c.pieces.invariant.given in c.in-Some.ensures _ _ _ so.0 so.1

pub pieces-preserved : goal.pieces-preserved
pieces-preserved g c =
    let so = c.pieces.invariant.given in
    let on = c.in_default.ensures in
    record { given = on.0 _ _ _ so.0 so.1; countable = omega (arith, c.pieces.invariant.countable, on.2) }

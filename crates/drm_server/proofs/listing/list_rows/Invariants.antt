use Rattle.std.proofs.Common.{take}
use Rattle.std.specs.List.{flat_map}
use Rattle.drm_frames.specs.Turns.{WriteCost}
use Rattle.drm_script.specs.Lines as lines
use Rattle.drm_server.proofs.listing.list_rows.Given as goal

abbrev pub invariant-loop-row : goal.invariant-loop-row
invariant-loop-row g l =
    WriteCost (g.K.Sink.trace l.fn.sink) (g.K.Sink.trace l.sink)
    (flat_map (lines.audit_line l.kind) (take l.row-index l.rows)) l.fn.turns l.turns

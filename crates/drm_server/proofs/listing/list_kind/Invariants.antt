use Rattle.std.proofs.Common.{◌<◌, ◌*◌, ◌^◌, take, length}
use Rattle.std.specs.List.{flat_map}
use Rattle.drm_model.specs.Audit.{audit_rows, rising_rows}
use Rattle.drm_model.specs.Run.{rows_of}
use Rattle.drm_frames.specs.Turns.{WriteCost}
use Rattle.drm_script.specs.Lines as lines
use Rattle.drm_server.proofs.listing.list_kind.Given as goal

abbrev pub invariant-loop-number : goal.invariant-loop-number
invariant-loop-number g l =
    let rows = rising_rows (audit_rows (rows_of l.device) l.kind) in
    record {
      pays : WriteCost (g.K.Sink.trace l.fn.sink) (g.K.Sink.trace l.sink) (flat_map (lines.audit_line l.kind) (take (l.number * 16) rows)) l.fn.turns l.turns;
      few : 0 < l.number → length rows < 2 ^ 31;
    }

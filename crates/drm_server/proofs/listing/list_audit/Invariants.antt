use Rattle.std.proofs.Common.{◌≡◌, take}
use Rattle.std.specs.List.{flat_map}
use Rattle.drm_model.specs.Run.{rows_of}
use Rattle.drm_table.specs.Audits.{kinds}
use Rattle.drm_frames.specs.Turns.{WriteCost}
use Rattle.drm_server.specs.Listing.{kind_text}
use Rattle.drm_server.proofs.listing.list_audit.Given as goal

abbrev pub invariant-loop-kind : goal.invariant-loop-kind
invariant-loop-kind g l = record {
  all : l.kind-items ≡ kinds;
  pays : WriteCost (g.K.Sink.trace l.fn.sink) (g.K.Sink.trace l.sink) (flat_map (kind_text (rows_of l.device)) (take l.kind-index l.kind-items)) l.fn.turns l.left;
}

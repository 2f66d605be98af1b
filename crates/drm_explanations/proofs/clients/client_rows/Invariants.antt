use Rattle.std.proofs.Common.{◌≡◌, All, map, take}
use Rattle.drm_trails.specs.Steps.{history_of}
use Rattle.drm_explanations.specs.Rows as rows
use Rattle.drm_explanations.proofs.clients.client_rows.Given as goal

abbrev pub invariant-loop-step : goal.invariant-loop-step
invariant-loop-step l = record {
  tells : All (rows.TellsClient l.topology l.labels l.ledger) l.rows.items;
  openings : map rows.opening_of_row l.rows.items ≡ rows.openings_in l.only (history_of (take l.step-index l.steps));
}

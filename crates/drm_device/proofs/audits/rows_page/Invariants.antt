use Rattle.std.proofs.Common.{◌≡◌, length, take, drop}
use Rattle.drm_model.specs.Rows.{Rows}
use Rattle.drm_model.specs.Audit.{audit_rows, rising_rows}
use Rattle.drm_device.specs.Audits.{RepresentsAfter}
use Rattle.drm_device.proofs.audits.rows_page.Given as goal

abbrev pub invariant-loop-position : goal.invariant-loop-position
invariant-loop-position l = record {
  rows : (w : Rows) → RepresentsAfter l.fn.state l.fn.steps w
      → l.page ≡ take l.position (drop l.fn.from (rising_rows (audit_rows w l.fn.kind)));
  length : length l.page ≡ l.position;
}

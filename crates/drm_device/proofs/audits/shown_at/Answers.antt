use Rattle.std.proofs.Common.{◌∙◌, sym}
use Rattle.drm_modes.specs.Modes.{shown_rows}
use Rattle.drm_device.proofs.AuditRows.{shown_there}
use Rattle.drm_device.proofs.audits.shown_at.Goals as goal

pub returns : goal.returns
returns c =
    shown_there (shown_rows c.args.modes.now) c.args.position c.in_ok-shown.shown
    (sym c.nth_shown.ensures ∙ c.in_ok-shown.was)

use Rattle.std.proofs.Common.{sym, ◌∙◌, ap, take, drop}
use Rattle.drm_model.specs.Audit.{audit_page}
use Rattle.drm_device.specs.Audits.{IsPage}
use Rattle.drm_device.proofs.AuditRows.{hold_rows}
use Rattle.drm_device.proofs.audits.page_of.Goals as goal

pub returns-in-Hold : goal.returns-in-Hold
unfolding IsPage audit_page
returns-in-Hold c =
    rw c.in-Hold.is
    (λ w h. c.handles_page.ensures ∙ ap (λ rows. take 16 (drop c.args.from rows)) (sym (hold_rows c.args.state.now c.args.steps w c.requires h)))

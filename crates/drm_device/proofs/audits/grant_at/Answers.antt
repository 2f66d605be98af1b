use Rattle.std.proofs.Common.{◌∙◌, sym}
use Rattle.drm_device.proofs.AuditRows.{grant_there}
use Rattle.drm_device.proofs.audits.grant_at.Goals as goal

pub returns : goal.returns
returns c =
    grant_there c.args.leases.now.grants c.args.position c.in_ok-grant.grant
    (sym c.nth_grant.ensures ∙ c.in_ok-grant.was)

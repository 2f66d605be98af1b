use Rattle.std.proofs.Common.{Some, ◌∙◌, sym, ap}
use Rattle.drm_device.proofs.AuditRows.{among_at, hold_there}
use Rattle.drm_device.proofs.audits.handle_at.Goals as goal

pub handle_row-requires-clause-held : goal.handle_row-requires-clause-held
handle_row-requires-clause-held c =
    among_at c.args.state.now.files.holds c.args.position c.in_ok-hold.hold
    (sym c.nth_handle.ensures ∙ c.in_ok-hold.was)

pub returns : goal.returns
returns c =
    ap Some c.handle_row.ensures
    ∙ hold_there c.args.state.now.objects.objects c.args.state.now.files.holds c.args.position c.in_ok-hold.hold
    (sym c.nth_handle.ensures ∙ c.in_ok-hold.was)

use Rattle.std.proofs.Common.{not, filter, ap, ◌∙◌}
use Rattle.drm_masters.specs.Masters.{is_below}
use Rattle.drm_leases.specs.declared.rows.Lease.{Lease}
use Rattle.drm_leases.proofs.Below.{under_ended}
use Rattle.drm_leases.proofs.endings.end_leases.Goals as goal

pub returns : goal.returns
returns c =
    c.end_leases_below.ensures
    ∙ ap (filter (λ (x : Lease). not (is_below c.args.masters.now.masters c.args.top x.lessee))) c.remove.ensures
    ∙ under_ended (λ (x : Lease). x.lessee) c.args.masters.now.masters c.args.top c.args.granted.now.rows

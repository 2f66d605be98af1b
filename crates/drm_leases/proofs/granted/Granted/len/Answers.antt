use Rattle.std.proofs.Common.{length, ap, sym, ◌∙◌}
use Rattle.drm_leases.specs.Masks.{LeaseRows}
use Rattle.drm_leases.proofs.Granting.{leases_many}
use Rattle.drm_leases.proofs.granted.Granted.len.Goals as goal

pub returns : goal.returns
returns c =
    c.len.ensures.len ∙ sym (leases_many c.self.inside.leases.items)
    ∙ ap (λ (a : LeaseRows). length a.rows) c.self.view_is

use Rattle.std.proofs.Common.{None, Some, sym, ap, ◌∙◌}
use Rattle.drm_leases.specs.Leases.{is_granted}
use Rattle.drm_leases.specs.Masks.{LeaseRows, grants_in, lease_row, leases_in}
use Rattle.drm_leases.proofs.Bits.{empty_mask}
use Rattle.drm_leases.proofs.Granting.{granted_by, leases_rise, lease_of}
use Rattle.drm_leases.proofs.granted.Granted.objects.Goals as goal

pub returns-in-Some : goal.returns-in-Some
returns-in-Some c = λ x.
    let kept = c.self.inside.leases.items in
    sym
    (granted_by (leases_in kept) (leases_rise kept) c.args.lessee x (Some (lease_row (c.args.lessee, c.in-Some.kept.now))) (lease_of kept c.args.lessee (Some c.in-Some.kept.now) (sym c.in-Some.ensures.value)))
    ∙ ap (λ (a : LeaseRows). is_granted (grants_in a.rows) c.args.lessee x) c.self.view_is

pub returns-in-None : goal.returns-in-None
returns-in-None c = λ x.
    let kept = c.self.inside.leases.items in
    empty_mask x
    ∙ sym
    (granted_by (leases_in kept) (leases_rise kept) c.args.lessee x None (lease_of kept c.args.lessee None (sym c.in-None.ensures.value)))
    ∙ ap (λ (a : LeaseRows). is_granted (grants_in a.rows) c.args.lessee x) c.self.view_is

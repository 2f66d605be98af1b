use Rattle.std.proofs.Common.{None, Some, sym, ap, ◌∙◌}
use Rattle.drm_leases.specs.Leases.{granted_objects}
use Rattle.drm_leases.specs.Masks.{LeaseRows, grants_in, lease_row, leases_in}
use Rattle.drm_leases.proofs.Granting.{objects_by, leases_rise, lease_of}
use Rattle.drm_leases.proofs.granted.Granted.objects_of.Goals as goal

pub returns-in-Some : goal.returns-in-Some
returns-in-Some c =
    let kept = c.self.inside.leases.items in
    c.objects_of.ensures
    ∙ sym
    (objects_by (leases_in kept) (leases_rise kept) c.args.lessee (Some (lease_row (c.args.lessee, c.in-Some.kept.now))) (lease_of kept c.args.lessee (Some c.in-Some.kept.now) (sym c.in-Some.ensures.value)))
    ∙ ap (λ (a : LeaseRows). granted_objects (grants_in a.rows) c.args.lessee) c.self.view_is

pub returns-in-None : goal.returns-in-None
returns-in-None c =
    let kept = c.self.inside.leases.items in
    c.new.ensures
    ∙ sym
    (objects_by (leases_in kept) (leases_rise kept) c.args.lessee None (lease_of kept c.args.lessee None (sym c.in-None.ensures.value)))
    ∙ ap (λ (a : LeaseRows). granted_objects (grants_in a.rows) c.args.lessee) c.self.view_is

use Rattle.std.proofs.Common.{ap, ◌∙◌}
use Rattle.std.specs.FinMap as fin
use Rattle.drm_leases.specs.Leases.{lessee_at}
use Rattle.drm_leases.specs.Masks.{LeaseRows, lendings_in}
use Rattle.drm_leases.proofs.ByKey.{lessee_is}
use Rattle.drm_leases.proofs.granted.Granted.lessee.Goals as goal

pub returns : goal.returns
returns c =
    c.copied.ensures ∙ c.get.ensures.value
    ∙ ap (fin.get c.self.inside.lessees.items) c.number.ensures
    ∙ lessee_is c.self.inside.leases.items c.self.inside.lessees.items c.self.invariant.keyed c.self.invariant.named
    c.args.key
    ∙ ap (λ (a : LeaseRows). lessee_at (lendings_in a.rows) c.args.key) c.self.view_is

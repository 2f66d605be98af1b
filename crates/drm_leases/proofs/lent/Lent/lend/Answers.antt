use Rattle.std.proofs.Common.{ℕ, ap, sym, ◌∙◌}
use Rattle.drm_index_array.specs.Indexed.{Indexed}
use Rattle.drm_leases.specs.Masks.{has_object, mask_at}
use Rattle.drm_leases.proofs.LentMasks.{lent_more, lent_first}
use Rattle.drm_leases.proofs.lent.Lent.lend.Goals as goal

pub returns-in-Some-clause-ok : goal.returns-in-Some-clause-ok
returns-in-Some-clause-ok c =
    λ m x. lent_more c.args.self.now.masks.items c.args.lessor c.in-Some.mask.now c.union.result c.args.objects
    (sym c.in-Some.ensures.value) c.union.ensures m x

pub returns-clause-ok : goal.returns-clause-ok
returns-clause-ok c =
    λ m x. ap (λ (a : Indexed ℕ). has_object (mask_at a.items m) x) c.in_default-insert.ensures.ok
    ∙ lent_first c.args.self.now.masks.items c.args.lessor c.args.objects (sym c.in_default.ensures.value) m x

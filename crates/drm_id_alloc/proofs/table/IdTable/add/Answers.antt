use Rattle.std.proofs.Common.{◌≡◌, ◌∙◌, sym, ap, subst, arith}
use Rattle.drm_id_alloc.specs.Table.{with_entry, AreUsedBelow}
use Rattle.drm_id_alloc.proofs.SearchLemmas.{used_up_to}
use Rattle.drm_id_alloc.proofs.table.IdTable.add.Goals as goal

pub invariant_of-self : goal.invariant_of-self
invariant_of-self g c =
    let old = c.args.self.now in
    let kept = c.self.invariant in
    let same = c.self.view_is ∙ c.in_ok-put.ensures.ok in
    let first : c.self.inside.first ≡ old.first = ap (λ t. t.first) same in
    let next = c.saturating_add-self-inside.ensures in
    record {
      within = kept.within;
      start_low = omega (arith, next, first, c.in-Some.ensures.low, kept.within.in_order, kept.within.fits);
      used = subst (λ t. AreUsedBelow t.slots t.first c.saturating_add-self-inside.result) (sym same)
          (used_up_to old.slots old.first c.in-Some.id c.args.value old.last c.saturating_add-self-inside.result (sym c.lowest_free.ensures.least ∙ c.in-Some.is) (omega (arith, next)));
    }

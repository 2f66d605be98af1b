use Rattle.std.proofs.Common.{ap, refl}
use Rattle.drm_index_array.proofs.RootLemmas.{vacant_found, vacant_none}
use Rattle.drm_index_array.proofs.tree.Node.next_vacant.Goals as goal

pub returns-in-Some : goal.returns-in-Some
returns-in-Some g c = vacant_found c.args.self.now c.covers.ensures.past c.args.from c.in-Some.found c.in-Some.ensures

pub returns-in-None : goal.returns-in-None
returns-in-None g c =
    let height = ap (λ t. t.height) c.self.view_is in
    rw (c.first_past.ensures, height)
    (vacant_none c.args.self.now c.covers.ensures.past c.args.from (c.if-not-covers.ensures.covers.0 refl) c.in-None.ensures)

use Rattle.std.proofs.Common.{refl}
use Rattle.std.proofs.lemmas.Option.{slice_get_read}
use Rattle.drm_files.specs.declared.orders.Neighbours.{Neighbours}
use Rattle.drm_files.proofs.OrderFacts.{written_in}
use Rattle.drm_files.proofs.orders.write_next.Goals as goal

pub returns-in-Some : goal.returns-in-Some
returns-in-Some c =
    let links = c.args.links.now in
    let it = c.in-Some.neighbours.now in
    λ k. written_in links.items c.args.handle it (λ (x : Neighbours). record x { next = c.args.next })
    (slice_get_read links.items links.len c.args.handle it links.ok.0 (c.in-Some.ensures.variant.0 refl) c.in-Some.ensures.value) k

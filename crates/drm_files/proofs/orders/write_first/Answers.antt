use Rattle.drm_files.specs.declared.orders.Neighbours.{Neighbours}
use Rattle.drm_files.proofs.OrderFacts.{written}
use Rattle.drm_files.proofs.orders.write_first.Goals as goal

pub returns-in-Some : goal.returns-in-Some
returns-in-Some c =
    λ k. written c.args.ends.now.items c.args.object c.in-Some.neighbours.now
    (λ (x : Neighbours). record x { next = c.args.first }) c.in-Some.ensures.value k

use Rattle.std.proofs.Common.{Some, ap, subst, ◌∙◌}
use Rattle.drm_files.specs.ExportOrders.{AreJoined, next_of}
use Rattle.drm_files.proofs.InOrder.{placed_in_order}
use Rattle.drm_files.proofs.orders.ExportOrders.place.Goals as goal

pub returns : goal.returns
returns c =
    let old = c.args.self.now in
    let q = c.last_before-previous.result in
    let h = c.args.prime.handle in
    let d = c.number-number.ensures in
    placed_in_order c.args.table.now.slots old c.requires.in_order c.args.object h c.args.prime.export_order
    c.requires.unplaced q c.next-next.result (c.next-next.ensures ∙ ap (λ o. next_of old o q) d) c.join.new.self
    c.join-2.new.self
    (subst (λ o. AreJoined old o q (Some h) c.join.new.self) d c.join.ensures)
    (subst (λ o. AreJoined c.join.new.self o (Some h) c.next-next.result c.join-2.new.self) d c.join-2.ensures)
    c.last_before-previous.ensures

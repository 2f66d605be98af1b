use Rattle.std.proofs.Common.{subst, ◌∙◌}
use Rattle.drm_index_array.proofs.FoundInLists.{is_some-false}
use Rattle.drm_files.specs.ExportOrders.{AreJoined}
use Rattle.drm_files.proofs.InOrder.{forgotten_placed, forgotten_unplaced, some_of}
use Rattle.drm_files.proofs.orders.ExportOrders.forget.Goals as goal

pub returns-then-was_placed : goal.returns-then-was_placed
returns-then-was_placed c = λ slots x order there for is.
    let old = c.args.self.now in
    let placed = some_of x.export_order (is ∙ c.if-was_placed.true) in
    forgotten_placed slots old order c.args.object c.args.handle x there for placed.0 placed.1
    c.previous-previous.result c.next-next.result c.previous-previous.ensures c.next-next.ensures c.join.new.self
    (subst (λ o. AreJoined old o c.previous-previous.result c.next-next.result c.join.new.self) c.number-number.ensures c.join.ensures)

pub returns-else-was_placed : goal.returns-else-was_placed
returns-else-was_placed c = λ slots x order there for is.
    forgotten_unplaced slots c.args.self.now order c.args.object c.args.handle x there
    (is_some-false x.export_order (is ∙ c.if-was_placed.false))

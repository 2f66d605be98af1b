use Rattle.std.proofs.Common.{sym}
use Rattle.drm_files.proofs.OrderFacts.{walk_first, walk_next, walk_shorter}
use Rattle.drm_files.proofs.orders.ExportOrders.last_before.Goals as goal

pub loop-at-init : goal.loop-at-init
loop-at-init c = record {
  reached =
      walk_first c.args.table.now.slots c.args.self.now c.requires.in_order c.args.object c.args.prime
      c.number-number.result c.number-number.ensures c.previous-at.result c.previous-at.ensures;
}

pub loop-at-smaller : goal.loop-at-smaller
loop-at-smaller c =
    walk_shorter c.args.table.now.slots c.args.self.now c.requires.in_order c.args.object c.args.prime
    c.number-number.result c.number-number.ensures c.loop-at.at c.in-Some.handle c.in-Some.is c.in-Some-prime_at.other
    c.in-Some-prime_at.ensures c.previous-at-in-Some.result c.previous-at-in-Some.ensures

pub loop-at-preserved : goal.loop-at-preserved
loop-at-preserved c = record {
  reached =
      walk_next c.args.table.now.slots c.args.self.now c.requires.in_order c.args.object c.args.prime
      c.number-number.result c.number-number.ensures c.loop-at.at c.in-Some.handle c.in-Some.is c.in-Some-prime_at.other
      c.in-Some-prime_at.ensures c.previous-at-in-Some.result c.previous-at-in-Some.ensures (sym c.if-is_before.ensures)
      c.loop-at.invariant.reached;
}

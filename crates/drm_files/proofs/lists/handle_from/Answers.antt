use Rattle.std.proofs.Common.{◌≡◌, ◌∙◌, true, is_some, sym, ap, arith}
use Rattle.std.specs.FinMap as map
use Rattle.drm_index_array.proofs.Least.{least_is}
use Rattle.drm_files.proofs.InOrder.{copied_there}
use Rattle.drm_files.proofs.lists.handle_from.Goals as goal

pub returns-then-is_some-clause-least : goal.returns-then-is_some-clause-least
returns-then-is_some-clause-least c =
    let there : map.contains_key c.args.table.now.slots c.args.from ≡ true =
    sym (ap is_some c.get.ensures.value) ∙ copied_there c.get.result ∙ sym c.if-is_some.ensures in
    sym
    (least_is _ c.args.from _ c.args.from (record { at_least = omega arith; at_most = omega (arith, c.ranges.from.fits); passes = there; none_below = λ k ge lt. absurd (omega arith) }))

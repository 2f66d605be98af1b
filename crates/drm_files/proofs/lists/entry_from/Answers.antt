use Rattle.std.proofs.Common.{◌≡◌, true, is_some, sym, ap, arith}
use Rattle.std.specs.FinMap as map
use Rattle.drm_index_array.proofs.Least.{least_is, least_some}
use Rattle.drm_files.proofs.Walks.{least_there}
use Rattle.drm_files.proofs.lists.entry_from.Goals as goal

pub returns-in-Some-clause-least : goal.returns-in-Some-clause-least
returns-in-Some-clause-least c =
    let there : map.contains_key c.args.table.now.slots c.args.from ≡ true = sym (ap is_some c.in-Some.ensures.value)
    in
    least_is _ c.args.from _ c.args.from
    (record { at_least = omega arith; at_most = omega (arith, c.ranges.from.fits); passes = there; none_below = λ k ge lt. absurd (omega arith) })

pub unreachable-requires : goal.unreachable-requires
unreachable-requires c =
    let h = c.in_ok-handle.handle in
    least_there c.args.table.now.slots c.args.from 4294967295 h
    (least_some _ c.args.from 4294967295 h (sym c.in_ok-handle.ensures.least)) c.in_default-get.ensures.value

use Rattle.std.proofs.Common.{get_or, take, arith}
use Rattle.drm_index_array.specs.Numbers.{is_among}
use Rattle.drm_refusals.specs.Kinds as kinds
use Rattle.drm_refusals.proofs.LoopLemmas.{once_more, shown_or}
use Rattle.drm_refusals.proofs.leasing.repeated_of.Goals as goal

pub loop-place-preserved : goal.loop-place-preserved
loop-place-preserved c =
    let ids = c.args.ids.now in
    let place = c.loop-place.place in
    let found = c.in_ok-found.found.items in (
      once_more ids place 0 (kinds.Shows c.loop-place.found.items kinds.is_repetition) (kinds.Shows found kinds.is_repetition)
          (omega (arith, c.loop-place-test.true)) c.loop-place.invariant.0 (c.in_ok-found.ensures.kept kinds.is_repetition)
          (shown_or c.repetition.result kinds.is_repetition found (is_among (take place ids) (get_or ids place 0)) c.repetition.ensures.is c.in_ok-found.ensures.has c.repetition.ensures.none),
      c.in_ok-found.ensures.holds,
    )

use Rattle.std.proofs.Common.{None, arith}
use Rattle.drm_refusals.specs.Kinds as kinds
use Rattle.drm_refusals.proofs.LoopLemmas.{found_more}
use Rattle.drm_refusals.proofs.screens.unseen_of.Goals as goal

pub loop-id-preserved : goal.loop-id-preserved
loop-id-preserved c = (
  found_more (kinds.sees_in c.args.context.topology.now c.args.context.ledger.now c.args.client None) c.args.ids.now c.loop-id.id-index 0
      (kinds.Shows c.loop-id.found.items kinds.is_id) (kinds.Shows c.in_ok-found.found.items kinds.is_id)
      (omega (arith, c.loop-id-test.true)) c.loop-id.invariant.0 (c.in_ok-found.ensures.kept kinds.is_id) c.in_ok-found.ensures.has,
  c.in_ok-found.ensures.holds,
)

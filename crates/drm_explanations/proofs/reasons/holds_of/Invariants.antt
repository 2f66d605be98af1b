use Rattle.drm_trails.specs.Steps.{history_of}
use Rattle.drm_explanations.proofs.HoldLemmas.{AreRows}
use Rattle.drm_explanations.proofs.reasons.holds_of.Given as goal

abbrev pub invariant-loop-one : goal.invariant-loop-one
invariant-loop-one l = AreRows (history_of l.trail) l.client l.one-items l.one-index l.rows.items

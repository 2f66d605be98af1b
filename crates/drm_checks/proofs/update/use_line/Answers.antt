use Rattle.std.proofs.Common.{refl, subst, inr}
use Rattle.drm_runs.specs.Script.{IsMisplaced}
use Rattle.drm_checks.proofs.update.use_line.Goals as goal

pub returns-in-Malformed : goal.returns-in-Malformed
returns-in-Malformed c = (
  refl,
  inr (subst (IsMisplaced c.args.interpreter.now.device) c.script_of.ensures c.in-Malformed.ensures.0),
  c.in-Malformed.ensures.1,
)

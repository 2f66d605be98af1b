use Rattle.drm_runs.proofs.StepLemmas.{advances_end, advances_used}
use Rattle.drm_runs.proofs.run.Run.use_next.Goals as goal

pub returns-in-Some : goal.returns-in-Some
returns-in-Some g c = advances_end c.args.self.now _ _ _ (g.K.Sink.trace c.args.sink.now) _ _ c.in-Some.ensures

pub returns : goal.returns
returns g c = advances_used c.args.self.now _ _ _ _ _ c.in_default.ensures _ _ _ _ c.use_line.ensures

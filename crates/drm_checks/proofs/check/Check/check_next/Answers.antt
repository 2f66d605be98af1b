use Rattle.drm_checks.specs.Differences.{file_of}
use Rattle.drm_checks.proofs.StepLemmas.{advances_end, advances_used}
use Rattle.drm_checks.proofs.check.Check.check_next.Goals as goal

pub returns-in-Some : goal.returns-in-Some
returns-in-Some g c =
    advances_end (file_of c.args.name.now c.args.command.now) c.args.self.now _ _ _ (g.K.Sink.trace c.args.sink.now) _ _
    c.in-Some.ensures

pub returns : goal.returns
returns g c =
    advances_used (file_of c.args.name.now c.args.command.now) c.args.self.now _ _ _ _ _ c.in_default.ensures _ _ _
    c.check_line.ensures

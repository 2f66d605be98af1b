use Rattle.std.proofs.Common.{Some, refl, sym, ap, ◌∙◌}
use Rattle.std.specs.Result.{result_ok}
use Rattle.drm_runs.specs.Script.Uses.{skipped}
use Rattle.drm_runs.specs.Script.IsMisplaced.{malformed}
use Rattle.drm_runs.specs.Script.WantsDevice.{command}
use Rattle.drm_runs.proofs.InterpreterLemmas.{sets_interprets, uses_asked}
use Rattle.drm_runs.proofs.interpreter.Interpreter.interpret.Goals as goal

pub returns-in-Err : goal.returns-in-Err
returns-in-Err c = (malformed (sym c.read_line.ensures.reading ∙ ap result_ok c.in-Err.is), refl)

pub returns-in-Skipped : goal.returns-in-Skipped
returns-in-Skipped c = skipped (sym c.read_line.ensures.reading ∙ ap result_ok c.in-Ok.is ∙ ap Some c.in-Skipped.is)

pub returns-in-Limits : goal.returns-in-Limits
returns-in-Limits c =
    sets_interprets _ _ _ c.in-Limits.limits _ _
    (sym c.read_line.ensures.reading ∙ ap result_ok c.in-Ok.is ∙ ap Some c.in-Limits.is) c.limit.ensures

pub returns-in-Some : goal.returns-in-Some
returns-in-Some c =
    uses_asked _ _ _ c.in-Says.command _
    (sym c.read_line.ensures.reading ∙ ap result_ok c.in-Ok.is ∙ ap Some c.in-Says.is) c.in-Some.ensures

pub returns-in-None : goal.returns-in-None
returns-in-None c =
    let e = c.in-None.ensures in
    (e.0, command (sym c.read_line.ensures.reading ∙ ap result_ok c.in-Ok.is ∙ ap Some c.in-Says.is), e.1, e.2)

use Rattle.std.proofs.Common.{sym, ◌∙◌, refl}
use Rattle.drm_script.proofs.SplittingLemmas.{ended_line, last_line}
use Rattle.drm_script.proofs.splitting.first_line.Goals as goal

pub returns-in-Some-clause-lines : goal.returns-in-Some-clause-lines
returns-in-Some-clause-lines c =
    λ some. ended_line c.args.text.now c.in-Some.at (sym c.line_end.ensures.place ∙ c.in-Some.is) some
    ∙ sym (rw c.split_at.ensures.front (rw c.split_at-in-Some.ensures.back refl))

pub returns-in-None-clause-lines : goal.returns-in-None-clause-lines
returns-in-None-clause-lines c = λ some. last_line c.args.text.now (sym c.line_end.ensures.place ∙ c.in-None.is) some

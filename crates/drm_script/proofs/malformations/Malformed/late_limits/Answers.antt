use Rattle.std.proofs.Common.{◌≡◌, ℕ, ◌-◌, length, drop, arith, ap, ◌∙◌}
use Rattle.drm_script.specs.Words.{words_of}
use Rattle.drm_script.proofs.malformations.Malformed.late_limits.Goals as goal

pub returns-clause-place : goal.returns-clause-place
returns-clause-place c =
    let none : length (words_of c.args.line.now) - length (words_of c.args.line.now) ≡ 0 = omega arith in
    c.at_fault.ensures.place ∙ ap (λ n. drop n (words_of c.args.line.now)) none

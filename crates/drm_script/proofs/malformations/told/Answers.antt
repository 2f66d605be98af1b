use Rattle.std.proofs.Common.{◌≤◌, ◌∙◌, length, arith, sym, ap}
use Rattle.std.specs.Prelude.{map}
use Rattle.std.proofs.lemmas.Bool.Decides.{nat_tests}
use Rattle.std.proofs.lemmas.List.{take_all}
use Rattle.drm_script.specs.Malformations.{shown}
use Rattle.drm_script.proofs.malformations.told.Goals as goal

pub returns-then-word-le-WORD : goal.returns-then-word-le-WORD
returns-then-word-le-WORD c =
    let short : length c.args.word.now ≤ 32 = grind (arith, nat_tests, c.if-word-le-WORD.true) in
    c.all_shown.ensures ∙ ap (map shown) (sym (take_all 32 c.args.word.now short))

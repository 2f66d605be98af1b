use Rattle.std.proofs.Common.{arith, ◌≡◌, ◌≢◌, ◌<◌, get_or, length, sym, ap, ◌∙◌}
use Rattle.std.proofs.lemmas.Bool.Decides.{nat_tests}
use Rattle.drm_script.specs.Fields.{number_of}
use Rattle.drm_script.proofs.NumberLemmas.{number_empty, number_plus, number_parsed, number_no_text}
use Rattle.drm_script.proofs.numbers.number.Goals as goal

pub returns-then-is_empty : goal.returns-then-is_empty
returns-then-is_empty c = number_empty c.args.word.now (grind (arith, nat_tests))

pub returns-then-word-eq-PLUS : goal.returns-then-word-eq-PLUS
returns-then-word-eq-PLUS c =
    let some : 0 < length c.args.word.now = grind (arith, nat_tests) in
    number_plus c.args.word.now some c.if-word-eq-PLUS.true

pub returns-in_default : goal.returns-in_default
returns-in_default c = number_no_text c.args.word.now c.in_default.ensures.cases.0

pub returns : goal.returns
returns c =
    let same : c.in-Ok.text.now ≡ c.args.word.now = c.in-Ok.ensures.cases.0 in
    let plain : get_or c.in-Ok.text.now 0 0 ≢ 43 =
    λ e. c.if-word-eq-PLUS.false (ap (λ w. get_or w 0 0) (sym same) ∙ e) in
    c.ok.ensures.value ∙ number_parsed c.in-Ok.text.now c.parse.result plain c.parse.ensures.value.0 ∙ ap number_of same

use Rattle.std.proofs.Common.{refl, rules}
use Rattle.drm_script.specs.Words.{words_of}
use Rattle.drm_script.proofs.FaultLemmas.{number_was}
use Rattle.drm_script.proofs.limits_line.limit_of.Goals as goal

pub returns-then-not-are_in_range-clause-fault : goal.returns-then-not-are_in_range-clause-fault
returns-then-not-are_in_range-clause-fault c =
    let is =
    number_was 32 (words_of c.args.text.now) (c.in_ok-number.number, words_of c.in_ok-number.rest.now)
    c.in_ok-number.ensures.reading in
    rw is.words (rw is.number (search rules), refl)

pub returns-clause-passed : goal.returns-clause-passed
returns-clause-passed c =
    let is =
    number_was 32 (words_of c.args.text.now) (c.in_ok-number.number, words_of c.in_ok-number.rest.now)
    c.in_ok-number.ensures.reading in
    rw is.words (rw is.number (search rules), refl)

use Rattle.std.proofs.Common.{arith, refl, sym, ◌∙◌, ◌<◌, length}
use Rattle.std.proofs.lemmas.Bool.Decides.{nat_tests}
use Rattle.drm_script.specs.Words.{IsEndOf}
use Rattle.drm_script.proofs.EndLemmas.{end_of-end, trimmed_end, drop_end, nil_end}
use Rattle.drm_script.proofs.WordLemmas.{next_none, next_found, next_last}
use Rattle.drm_script.proofs.words.next_word.Goals as goal

pub returns-then-is_empty-clause-words : goal.returns-then-is_empty-clause-words
returns-then-is_empty-clause-words c =
    next_none c.args.text.now c.trim_spaces-word.result.now c.trim_spaces-word.ensures (grind (arith, nat_tests))

pub returns-in-Some-clause-words : goal.returns-in-Some-clause-words
returns-in-Some-clause-words c =
    let some : 0 < length c.trim_spaces-word.result.now = grind (arith, nat_tests) in
    next_found c.args.text.now c.trim_spaces-word.result.now c.in-Some.end c.trim_spaces-word.ensures some
    (sym c.first_space.ensures ∙ c.in-Some.is)
    ∙ sym (rw c.split_at.ensures.front (rw c.split_at.ensures.back refl))

pub returns-in-Some-clause-behind : goal.returns-in-Some-clause-behind
returns-in-Some-clause-behind c =
    let trim : IsEndOf c.args.text.now c.trim_spaces-word.result.now =
    rw c.trim_spaces-word.ensures (trimmed_end c.args.text.now) in
    rw c.split_at.ensures.back (end_of-end trim (drop_end c.in-Some.end c.trim_spaces-word.result.now))

pub returns-in-None-clause-words : goal.returns-in-None-clause-words
returns-in-None-clause-words c =
    let some : 0 < length c.trim_spaces-word.result.now = grind (arith, nat_tests) in
    next_last c.args.text.now c.trim_spaces-word.result.now c.trim_spaces-word.ensures some
    (sym c.first_space.ensures ∙ c.in-None.is)

pub returns-in-None-clause-behind : goal.returns-in-None-clause-behind
returns-in-None-clause-behind c = nil_end c.args.text.now

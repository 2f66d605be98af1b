use Rattle.std.proofs.Common.{◌∙◌, sym, arith}
use Rattle.drm_index_array.proofs.Least.{least_some, least_none}
use Rattle.drm_index_array.proofs.words.Words.full_slots.Goals as goal

pub returns-in-Some-clause-few : goal.returns-in-Some-clause-few
returns-in-Some-clause-few c = omega (arith, (least_some _ _ _ _ (sym c.in-Some.ensures)).at_most)

pub returns-in-Some-clause-full : goal.returns-in-Some-clause-full
returns-in-Some-clause-full c i lt =
    let is = least_some _ _ _ _ (sym c.in-Some.ensures) in
    sym (c.word.ensures i (omega (arith, lt, is.at_most))) ∙ is.none_below i (omega arith) lt

pub returns-in-None-clause-full : goal.returns-in-None-clause-full
returns-in-None-clause-full c i lt =
    sym (c.word.ensures i lt) ∙ least_none _ _ _ (sym c.in-None.ensures) i (omega arith) (omega (arith, lt))

use Rattle.std.proofs.Common.{arith}
use Rattle.drm_checks.proofs.TellingLemmas.{told_then, told_part}
use Rattle.drm_checks.proofs.checker.tell.Goals as goal

pub tell_why-requires : goal.tell_why-requires
tell_why-requires g c = let paid = c.in-Whole.ensures.cost in omega (arith, paid, c.requires)

pub returns-in-Whole : goal.returns-in-Whole
returns-in-Whole g c = told_then c.tell_why.result _ _ _ _ _ _ _ _ c.in-Whole.ensures c.tell_why.ensures

pub returns-in_default : goal.returns-in_default
returns-in_default g c = told_part c.tell_line.result _ _ _ _ _ _ c.in_default.not-Whole c.tell_line.ensures

use Rattle.drm_id_alloc.proofs.NumberLemmas.{one_more}
use Rattle.drm_id_alloc.proofs.numbers.noted.Goals as goal

pub returns-in-Ok-clause-ok : goal.returns-in-Ok-clause-ok
returns-in-Ok-clause-ok c = one_more c.args.numbers.now c.insert.new.self c.args.number c.in-Ok.ensures.ok

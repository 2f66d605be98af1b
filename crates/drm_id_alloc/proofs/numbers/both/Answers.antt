use Rattle.drm_id_alloc.proofs.NumberLemmas.{two}
use Rattle.drm_id_alloc.proofs.numbers.both.Goals as goal

pub returns : goal.returns
returns c =
    two c.args.first c.args.second c.new-numbers.result c.noted.new.numbers c.noted-2.new.numbers c.new-numbers.ensures
    c.in_ok-noted.ensures.ok c.in_ok-noted-2.ensures.ok

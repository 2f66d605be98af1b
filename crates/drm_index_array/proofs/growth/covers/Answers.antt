use Rattle.std.proofs.Common.{arith}
use Rattle.std.specs.Ordering.{nat_cmp}
use Rattle.std.specs.FinMap as map
use Rattle.drm_index_array.specs.Marked.{Marked}
use Rattle.drm_index_array.proofs.growth.covers.Goals as goal

pub returns-in-None-clause-absent : goal.returns-in-None-clause-absent
returns-in-None-clause-absent g c = λ _. rw c.in-None.is (map.get-empty nat_cmp c.args.index)

pub returns-in-None-clause-few : goal.returns-in-None-clause-few
returns-in-None-clause-few g c = rw c.in-None.is (omega (arith, map.len-empty nat_cmp (Marked g.row.T.Denot)))

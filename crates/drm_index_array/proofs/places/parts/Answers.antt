use Rattle.std.proofs.Common.{◌*◌, arith}
use Rattle.std.proofs.lemmas.Nat.{and_mask, one_shl}
use Rattle.drm_index_array.proofs.places.parts.Goals as goal

pub returns-clause-rest : goal.returns-clause-rest
returns-clause-rest c = rw (one_shl (6 * c.args.height) 64 (omega arith)) (and_mask c.args.index (6 * c.args.height))

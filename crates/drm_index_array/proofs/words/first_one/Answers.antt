use Rattle.std.proofs.Common.{arith}
use Rattle.std.proofs.lemmas.Nat.Bits.{ones_shl}
use Rattle.drm_index_array.proofs.WordLemmas.{no_position, least_position, and_fits}
use Rattle.drm_index_array.proofs.words.first_one.Goals as goal

pub returns-then-rest-eq0 : goal.returns-then-rest-eq0
returns-then-rest-eq0 c = no_position _ _ (rw (ones_shl 64 c.args.from (omega arith)) at c.if-rest-eq0.true)

pub returns : goal.returns
returns c =
    let mask = ones_shl 64 c.args.from (omega arith) in
    let some = rw mask at c.if-rest-eq0.false in
    rw mask (least_position _ _ (omega arith) (and_fits _ _ (omega arith)))

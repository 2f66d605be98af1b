use Rattle.drm_index_array.proofs.WordLemmas.{has_bit-set, has_bit-clear}
use Rattle.drm_index_array.proofs.words.with_bit.Goals as goal

pub returns-then-on : goal.returns-then-on
returns-then-on c = rw c.if-on.true (λ i lt. has_bit-set c.args.word c.args.at i c.requires lt)

pub returns-else-on : goal.returns-else-on
returns-else-on c = rw c.if-on.false (λ i lt. has_bit-clear c.args.word c.args.at i c.requires lt)

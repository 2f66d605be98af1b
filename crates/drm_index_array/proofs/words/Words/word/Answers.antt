use Rattle.drm_index_array.proofs.WordLemmas.{has_bit-not}
use Rattle.drm_index_array.proofs.words.Words.word.Goals as goal

pub returns-in-Vacant : goal.returns-in-Vacant
returns-in-Vacant c = rw c.in-Vacant.is (λ i lt. has_bit-not c.args.self.now.full i c.requires.full lt)

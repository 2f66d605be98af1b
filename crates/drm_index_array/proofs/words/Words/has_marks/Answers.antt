use Rattle.drm_index_array.proofs.CutLemmas.{no_marks}
use Rattle.drm_index_array.proofs.words.Words.has_marks.Goals as goal

pub returns : goal.returns
returns c = no_marks c.args.self.now

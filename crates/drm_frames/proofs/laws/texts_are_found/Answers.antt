use Rattle.drm_frames.proofs.DecodingLaws.{text-reads}
use Rattle.drm_frames.proofs.laws.texts_are_found.Goals as goal

pub returns : goal.returns
returns c = text-reads

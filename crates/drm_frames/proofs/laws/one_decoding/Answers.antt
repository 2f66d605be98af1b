use Rattle.drm_frames.proofs.DecodingLaws.{one-decoding}
use Rattle.drm_frames.proofs.laws.one_decoding.Goals as goal

pub returns : goal.returns
returns c = one-decoding

use Rattle.drm_frames.proofs.FrameLaws.{one-text}
use Rattle.drm_frames.proofs.laws.no_text_begins_another.Goals as goal

pub returns : goal.returns
returns c = one-text

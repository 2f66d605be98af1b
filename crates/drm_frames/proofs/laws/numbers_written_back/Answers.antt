use Rattle.drm_frames.proofs.NumberBytes.{u16-again, u32-again, u64-again}
use Rattle.drm_frames.proofs.laws.numbers_written_back.Goals as goal

pub returns-clause-two_bytes : goal.returns-clause-two_bytes
returns-clause-two_bytes c = u16-again

pub returns-clause-four_bytes : goal.returns-clause-four_bytes
returns-clause-four_bytes c = u32-again

pub returns-clause-eight_bytes : goal.returns-clause-eight_bytes
returns-clause-eight_bytes c = u64-again

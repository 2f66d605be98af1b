use Rattle.drm_frames.proofs.NumberBytes.{u16_in-u16, u32_in-u32, u64_in-u64}
use Rattle.drm_frames.proofs.laws.numbers_read_back.Goals as goal

pub returns-clause-two_bytes : goal.returns-clause-two_bytes
returns-clause-two_bytes c = u16_in-u16

pub returns-clause-four_bytes : goal.returns-clause-four_bytes
returns-clause-four_bytes c = u32_in-u32

pub returns-clause-eight_bytes : goal.returns-clause-eight_bytes
returns-clause-eight_bytes c = u64_in-u64

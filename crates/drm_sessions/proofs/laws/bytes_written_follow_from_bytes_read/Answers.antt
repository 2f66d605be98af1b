use Rattle.drm_sessions.proofs.SameInput.{fronts-one-begins, fronts-same}
use Rattle.drm_sessions.proofs.laws.bytes_written_follow_from_bytes_read.Goals as goal

pub returns-clause-begins : goal.returns-clause-begins
returns-clause-begins c = fronts-one-begins

pub returns-clause-same : goal.returns-clause-same
returns-clause-same c = fronts-same

use denote.Exit.{no}
use denote.Param.Send.{arg_sync, param_sync}
use Rattle.drm_turns.proofs.Crossing.{shared_sync}
use Rattle.drm_session_tests.proofs.turns.threads_at_once_leave_one_journal.Goals as goal

pub two_hundred_events-participant-requires-sync-D : goal.two_hundred_events-participant-requires-sync-D
two_hundred_events-participant-requires-sync-D g c κs = param_sync _ _ (arg_sync _ no _ shared_sync)

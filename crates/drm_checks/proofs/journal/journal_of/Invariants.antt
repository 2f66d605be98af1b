use Rattle.std.proofs.Common.{take}
use Rattle.drm_checks.specs.Journals.{IsWritten}
use Rattle.drm_checks.proofs.journal.journal_of.Given as goal

-- the number of events that are written
abbrev pub invariant-loop-event : goal.invariant-loop-event
invariant-loop-event l = IsWritten l.fn.limits l.fn.device (take l.event-index l.events) l.text.items l.writer
